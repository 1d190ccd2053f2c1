-- `zones::simple::part_of` meets its contract, by the names it was held against.
use Rattle.numbers.proofs.Prelude.{ℕ, List, sym, ap, ◌∙◌}
use Rattle.zones.proofs.simple.{Names.{is_prefix, is_id, is_neither, is_name, is_other}}
use Rattle.header.{proofs.Strings.{part_is}, specs.Text.{bytes_of}}
use Rattle.zones.specs.Simple.{same, name, timezone_id, timezone_id_prefix}
use Rattle.zones.proofs.simple.part_of.Goals as goal

pub returns-then-is_called : goal.returns-then-is_called
returns-then-is_called c =
    is_prefix c.args.kind (bytes_of c.args.file.now c.args.called) c.if-kind-eq84.true (sym (ap (λ (s : List ℕ). same s timezone_id_prefix) (part_is c.args.file.now
    c.args.called)) ∙ sym c.is_called.ensures ∙ c.if-is_called.true)

pub returns-then-is_called-2 : goal.returns-then-is_called-2
returns-then-is_called-2 c =
    is_id c.args.kind (bytes_of c.args.file.now c.args.called) c.if-kind-eq84.true (sym (ap (λ (s : List ℕ). same s timezone_id_prefix) (part_is c.args.file.now
    c.args.called)) ∙ sym c.is_called.ensures ∙ c.if-is_called.false) (sym (ap (λ (s : List ℕ). same s timezone_id) (part_is c.args.file.now c.args.called))
    ∙ sym c.is_called-then-kind-eq84.ensures ∙ c.if-is_called-2.true)

pub returns-then-kind-eq84 : goal.returns-then-kind-eq84
returns-then-kind-eq84 c =
    is_neither c.args.kind (bytes_of c.args.file.now c.args.called) c.if-kind-eq84.true (sym (ap (λ (s : List ℕ). same s timezone_id_prefix) (part_is
    c.args.file.now c.args.called)) ∙ sym c.is_called.ensures ∙ c.if-is_called.false) (sym (ap (λ (s : List ℕ). same s timezone_id) (part_is c.args.file.now
    c.args.called)) ∙ sym c.is_called-then-kind-eq84.ensures ∙ c.if-is_called-2.false)

pub returns-then-is_called-3 : goal.returns-then-is_called-3
returns-then-is_called-3 c =
    is_name c.args.kind (bytes_of c.args.file.now c.args.called) c.if-kind-eq84.false (sym (ap (λ (s : List ℕ). same s name) (part_is c.args.file.now c.args.called))
    ∙ sym c.is_called-2.ensures ∙ c.if-is_called-3.true)

pub returns : goal.returns
returns c =
    is_other c.args.kind (bytes_of c.args.file.now c.args.called) c.if-kind-eq84.false (sym (ap (λ (s : List ℕ). same s name) (part_is c.args.file.now c.args.called))
    ∙ sym c.is_called-2.ensures ∙ c.if-is_called-3.false)
