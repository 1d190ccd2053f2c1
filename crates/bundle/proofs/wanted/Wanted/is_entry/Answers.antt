-- `bundle::wanted::Wanted::is_entry` meets its contract.
use Rattle.numbers.proofs.Prelude.{◌∙◌}
use Rattle.bundle.proofs.{Entries.{long_prefix, long_name, entry_is}}
use Rattle.bundle.proofs.wanted.Wanted.is_entry.Goals as goal

pub returns-then-self-gt40 : goal.returns-then-self-gt40
returns-then-self-gt40 c =
    long_prefix c.args.bundle.now c.args.self.prefix.now c.args.self.id.now c.args.place c.args.self.mask c.if-self-gt40.true

pub returns-then-self : goal.returns-then-self
returns-then-self c =
    long_name c.args.bundle.now c.args.self.prefix.now c.args.self.id.now c.args.place c.args.self.mask c.if-self-gt40.false c.if-self.true

pub returns : goal.returns
returns c =
    c.agrees.ensures ∙ entry_is c.args.bundle.now c.args.self.prefix.now c.args.self.id.now c.args.place c.args.self.mask c.if-self-gt40.false c.if-self.false
