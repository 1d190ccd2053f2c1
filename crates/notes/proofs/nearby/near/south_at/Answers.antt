-- `notes::nearby::near::south_at` meets its contract.
use Rattle.numbers.proofs.{Prelude.{◌*◌, pos, get_or, w32, SFits, arith}, write.Gaps.{widens}}
use Rattle.build.proofs.entries.Southern.{south_fits, south_sign, south_range, south_is, word_fits}
use Rattle.notes.proofs.nearby.near.south_at.Goals as goal

pub overflow_cast-up : goal.overflow_cast-up
overflow_cast-up c =
    widens {z = get_or c.args.boxes.now (4 * c.args.yard) (pos 0)} (record { sfits = c.up-1.given })

pub overflow_add-up : goal.overflow_add-up
overflow_add-up c =
    south_fits (get_or c.args.boxes.now (4 * c.args.yard) (pos 0)) (record { sfits = c.up-1.given })

pub overflow_cast-result : goal.overflow_cast-result
overflow_cast-result c =
    let z = get_or c.args.boxes.now (4 * c.args.yard) (pos 0) in
    let h : SFits w32 z = record { sfits = c.up-1.given } in
    (south_sign z h, omega (arith, south_range z h))

pub returns : goal.returns
returns c =
    let z = get_or c.args.boxes.now (4 * c.args.yard) (pos 0) in
    let h : SFits w32 z = record { sfits = c.up-1.given } in
    (south_is z h, word_fits z h _ (south_is z h))
