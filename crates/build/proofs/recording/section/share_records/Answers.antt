-- `build::recording::section::share_records` meets its contract.
use Rattle.numbers.proofs.Prelude.{arith}
use Rattle.build.proofs.recording.{Recording.{share_inside, share_all, order_own, keeps_as}}
use Rattle.build.proofs.recording.section.share_records.Goals as goal

pub sort_keys-requires : goal.sort_keys-requires
sort_keys-requires c =
    (share_inside _ _ _ _ _ _ _ c.requires _ c.mark_starts.ensures, omega (arith, c.requires.few), c.requires.spare_room)
