-- A number above 0 is settled only if the far tracker had registered it; proved. Assumes nothing.
use Rattle.promises.specs.Settled.{SettledOnlyIfRegistered, ReportsTaken, FarIsTracker}
use Rattle.sender.proofs.Channel as Channel

-- this holds whatever arrives: the first premise is needed where no report may be refused, and where the far tracker's numbers have four bytes
pub settled_only_if_registered : SettledOnlyIfRegistered
settled_only_if_registered run ours theirs = Channel.settled_registered run theirs

pub reports_taken : ReportsTaken
reports_taken = Channel.reports_taken

pub far_is_tracker : FarIsTracker
far_is_tracker = Channel.far_is_tracker
