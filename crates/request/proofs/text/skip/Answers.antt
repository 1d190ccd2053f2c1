-- `request::text::skip` meets its contract.
use Rattle.numbers.proofs.Prelude.{ℕ, ◌+◌, drop, length, ◌≡◌, sym, ap, ◌∙◌, arith, length-drop, drop-drop}
use Rattle.std.specs.{Prelude.{position}, List.{position_or_len}}
use Rattle.request.proofs.Texts.{rest_is, first_place, none_passes, no_blank, blanks_end}
use Rattle.request.proofs.text.skip.Goals as goal

pub returns-in-Some : goal.returns-in-Some
returns-in-Some c =
    let text = c.args.text.now in
    let from = c.args.from in
    let place = first_place no_blank (drop from text) (ap (position _) (sym (rest_is text from)) ∙ sym c.first_mark.ensures ∙ c.in-Some.is) in (
      ap (λ (k : ℕ). drop (from + k) text) place.0 ∙ sym (drop-drop (position_or_len no_blank (drop from text)) from text) ∙ blanks_end (drop from text),
      omega (arith, place, length-drop from text, c.requires),
    )

pub returns-in-None : goal.returns-in-None
returns-in-None c =
    let text = c.args.text.now in
    let from = c.args.from in
    let none = none_passes no_blank (drop from text) (ap (position _) (sym (rest_is text from)) ∙ sym c.first_mark.ensures ∙ c.in-None.is) in
    let all : length text ≡ from + position_or_len no_blank (drop from text) = omega (arith, none, length-drop from text, c.requires) in (
      ap (λ (k : ℕ). drop k text) all ∙ sym (drop-drop (position_or_len no_blank (drop from text)) from text) ∙ blanks_end (drop from text),
      omega arith,
    )
