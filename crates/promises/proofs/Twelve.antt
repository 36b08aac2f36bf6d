-- The twelve marked cases: those of the tracker and the store by the laws of their crates, the others computed. Assumes nothing.
use mathlib.Core.Path.{refl}
use Rattle.wire.specs.Parts.{part}
use Rattle.wire.specs.Numbers.{little, big, big_at}
use Rattle.blocks.specs.Layout.{sum, fields_at, eight}
use Rattle.blocks.specs.Table.{look, widths, after_fields, field_length}
use Rattle.blocks.specs.Extent.{is_i2np_type, first_fragment, pair_bytes_in, address, ignores_size, plain_length, taken_at, extent_at}
use Rattle.blocks.specs.Reading.{bytes_after, read_at}
use Rattle.blocks_listing.specs.Listing.{blocks_from, blocks_of}
use Rattle.acks.proofs.Cases.{case_c_lem, case_h_lem, case_i_lem, case_j_lem, case_k_lem}
use Rattle.reassembly.proofs.Cases.{case_l_lem}
use Rattle.promises.specs.Twelve.{Twelve}

pub twelve_hold : Twelve
unfolding read_at fields_at eight bytes_after field_length widths after_fields look sum extent_at taken_at plain_length ignores_size big_at big little part is_i2np_type first_fragment address pair_bytes_in blocks_of blocks_from
twelve_hold =
    ((refl, refl), (refl, ((refl, refl, case_c_lem), ((refl, refl), ((refl, refl), ((refl, refl), ((refl, refl), (case_h_lem, (case_i_lem, (case_j_lem, (case_k_lem, (case_l_lem, tt))))))))))))
