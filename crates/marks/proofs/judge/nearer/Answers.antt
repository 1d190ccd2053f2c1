-- `marks::judge::nearer` meets its contract, by the distance.
use Rattle.numbers.proofs.Prelude.{ℕ, ◌+◌, ltb, ltb-true, ltb-false, Bool, true, false, ◌≡◌, refl, sym, arith}
use Rattle.numbers.specs.Answer.{if◌then◌else◌}
use Rattle.std.specs.Prelude.{Err}
use Rattle.verdict.specs.{Step.{told}, declared.step.Halt.{Halt, TheVariants.{Meets, Over}}}
use Rattle.marks.specs.Judging.{nearer_by}
use Rattle.marks.proofs.judge.nearer.Goals as goal

none : (halt : Halt) (near : ℕ) → near ≡ nearer_by (told (Err halt)) near
unfolding nearer_by
none (Meets verdict) near = refl
none Over near = refl

pub returns-in-Ok : goal.returns-in-Ok
unfolding nearer_by
returns-in-Ok c =
    rw (← c.to_vertex.ensures, c.in-Ok.is) (go (ltb c.in-Ok.squared c.args.near) refl) where
      go : (t : Bool) → ltb c.in-Ok.squared c.args.near ≡ t → c.min.result ≡ (if t then c.in-Ok.squared + 1 else c.args.near)
      go true e = omega (arith, ltb-true _ _ e, c.min.ensures, c.saturating_add.ensures, c.ranges.near)
      go false e = omega (arith, ltb-false _ _ e, c.min.ensures, c.saturating_add.ensures, c.ranges.near)

pub returns-in-Err : goal.returns-in-Err
returns-in-Err c =
    rw (← c.to_vertex.ensures, c.in-Err.is) (none _ c.args.near)
