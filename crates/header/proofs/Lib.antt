-- Fronts: laws of the three masks. Refusals: which is given of two, what follows from none. Plain: the plain header put. Calls: what the calls answer. Refused: what a refusal leaves. RoundTrip: its two claims. Widths: what reading gives fits what writing takes.
pub mod Fronts
pub mod Refusals
pub mod Plain
pub mod Calls
pub mod Refused
pub mod RoundTrip
pub mod Widths
