-- `bundle::wanted::Wanted::is_here` meets its contract.
use Rattle.numbers.proofs.Prelude.{◌++◌, map, sym, ◌∙◌, arith}
use Rattle.bundle.proofs.{Entries.{not_entry}}
use Rattle.bundle.specs.Bundle.{xored}
use Rattle.bundle.proofs.wanted.Wanted.is_here.Goals as goal

pub returns-then-bundle-place : goal.returns-then-bundle-place
returns-then-bundle-place c =
    sym (not_entry c.args.bundle.now (map (xored c.args.self.mask) (c.args.self.prefix.now ++ c.args.self.id.now)) c.args.place c.args.self.probe c.args.self.probe_short (λ e.
    c.if-bundle-place.true (e ∙ sym c.args.self.probed)))
