-- `build::recording::section::least_length` meets its contract.
use Rattle.build.proofs.recording.{Recording.{least_found, least_small, least_there}}
use Rattle.build.proofs.recording.section.least_length.Goals as goal

pub overflow_cast-result : goal.overflow_cast-result
overflow_cast-result c =
    record { fits = least_small _ _ _ c.least_layout.ensures _ c.in-Some.is }

pub returns-in-Some : goal.returns-in-Some
returns-in-Some c =
    least_found _ _ _ c.least_layout.ensures _ c.in-Some.is

pub returns-in-None : goal.returns-in-None
returns-in-None c =
    least_there _ _ c.requires _ c.least_layout.ensures c.in-None.is _
