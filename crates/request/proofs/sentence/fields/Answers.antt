-- `request::sentence::fields` meets its contract.
use Rattle.numbers.{proofs.Prelude.{ℕ, [], ◌∷◌, sym, ap, ◌∙◌, arith}, specs.Reply.{refused, refusal}}
use Rattle.request.proofs.{Replied.{no_address, no_rmc, few_fields, no_fix, no_status, no_mode, fields_are}}
use Rattle.request.specs.{Request.{is_address, is_rmc, is_mode}, Text.{formed}}
use Rattle.request.proofs.sentence.fields.Goals as goal

pub returns-then-not-is_address : goal.returns-then-not-is_address
returns-then-not-is_address c =
    let first = c.field-address.ensures.0 in
    ap refused c.at.ensures ∙ no_address c.args.body.now c.args.star (ap is_address (sym first) ∙ sym c.is_address.ensures ∙ c.if-not-is_address.true)

pub returns-then-not-is_rmc : goal.returns-then-not-is_rmc
returns-then-not-is_rmc c =
    let first = c.field-address.ensures.0 in
    let address = ap is_address (sym first) ∙ sym c.is_address.ensures ∙ c.if-not-is_address.false in
    ap refused c.alone.ensures ∙ no_rmc c.args.body.now c.args.star address (ap is_rmc (sym first) ∙ sym c.is_rmc.ensures ∙ c.if-not-is_rmc.true)

pub returns-then-count-lt9 : goal.returns-then-count-lt9
returns-then-count-lt9 c =
    let first = c.field-address.ensures.0 in
    let address = ap is_address (sym first) ∙ sym c.is_address.ensures ∙ c.if-not-is_address.false in
    let rmc = ap is_rmc (sym first) ∙ sym c.is_rmc.ensures ∙ c.if-not-is_rmc.false in
    ap refused c.at-then-count-lt9.ensures ∙ few_fields c.args.body.now c.args.star address rmc (omega (arith, c.count.ensures, c.if-count-lt9.true))

pub returns-then-formed : goal.returns-then-formed
returns-then-formed c =
    let first = c.field-address.ensures.0 in
    let address = ap is_address (sym first) ∙ sym c.is_address.ensures ∙ c.if-not-is_address.false in
    let rmc = ap is_rmc (sym first) ∙ sym c.is_rmc.ensures ∙ c.if-not-is_rmc.false in
    ap refused c.alone-then-formed.ensures ∙ no_fix c.args.body.now c.args.star address rmc (omega (arith, c.count.ensures, c.if-count-lt9.false)) (ap (formed (86 ∷ [])) (sym c.field-status.ensures.0) ∙ sym c.formed.ensures
    ∙ c.if-formed.true)

pub returns-then-not-formed : goal.returns-then-not-formed
returns-then-not-formed c =
    let first = c.field-address.ensures.0 in
    let address = ap is_address (sym first) ∙ sym c.is_address.ensures ∙ c.if-not-is_address.false in
    let rmc = ap is_rmc (sym first) ∙ sym c.is_rmc.ensures ∙ c.if-not-is_rmc.false in
    ap refused c.at-then-not-formed.ensures ∙ ap (λ (n : ℕ). refused (refusal 80 0 n)) c.field-status.ensures.1
    ∙ no_status c.args.body.now c.args.star address rmc (omega (arith, c.count.ensures, c.if-count-lt9.false)) (ap (formed (86 ∷ [])) (sym c.field-status.ensures.0) ∙ sym c.formed.ensures
    ∙ c.if-formed.false) (ap (formed (65 ∷ [])) (sym c.field-status.ensures.0) ∙ sym c.formed-2.ensures ∙ c.if-not-formed.true)

pub returns-then-not-is_mode : goal.returns-then-not-is_mode
returns-then-not-is_mode c =
    let first = c.field-address.ensures.0 in
    let address = ap is_address (sym first) ∙ sym c.is_address.ensures ∙ c.if-not-is_address.false in
    let rmc = ap is_rmc (sym first) ∙ sym c.is_rmc.ensures ∙ c.if-not-is_rmc.false in
    ap refused c.alone-then-not-is_mode.ensures ∙ no_mode c.args.body.now c.args.star address rmc (omega (arith, c.count.ensures, c.if-count-lt9.false)) (ap (formed (86 ∷ [])) (sym c.field-status.ensures.0) ∙ sym c.formed.ensures
    ∙ c.if-formed.false) (ap (formed (65 ∷ [])) (sym c.field-status.ensures.0) ∙ sym c.formed-2.ensures ∙ c.if-not-formed.false) (ap is_mode (sym c.field.ensures.0) ∙ sym c.is_mode.ensures ∙ c.if-not-is_mode.true)

pub returns : goal.returns
returns c =
    let first = c.field-address.ensures.0 in
    let address = ap is_address (sym first) ∙ sym c.is_address.ensures ∙ c.if-not-is_address.false in
    let rmc = ap is_rmc (sym first) ∙ sym c.is_rmc.ensures ∙ c.if-not-is_rmc.false in
    c.fix.ensures ∙ fields_are c.args.body.now c.args.star address rmc (omega (arith, c.count.ensures, c.if-count-lt9.false)) (ap (formed (86 ∷ [])) (sym c.field-status.ensures.0) ∙ sym c.formed.ensures
    ∙ c.if-formed.false) (ap (formed (65 ∷ [])) (sym c.field-status.ensures.0) ∙ sym c.formed-2.ensures ∙ c.if-not-formed.false) (ap is_mode (sym c.field.ensures.0) ∙ sym c.is_mode.ensures ∙ c.if-not-is_mode.false)
