-- Two replies that a promise permits are equal. Assumes nothing.
use Rattle.numbers.{proofs.{Laws.{same_number}, Prelude.{ℕ, Bool, List, ◌≡◌, sym, ap, ◌∙◌}}, specs.{Reply.{Reply}, Varint.{told}, declared.varint.Stop.{Stop}}}
use Rattle.header.specs.{Opening.{Replied, replied, opened_of, opened_strictly}, Text.{string_at}, declared.{opening.Opening.{Opening}, text.Text.{Text}}}
use Rattle.std.specs.Prelude.{Result}

-- ---- for each public function
pub same_string : (strict : Bool) (file : List ℕ) (metadata place : ℕ) (r r' : Result Text Stop) → told r ≡ string_at strict file metadata place → told r' ≡ string_at strict file metadata place → r ≡ r'
same_string strict file metadata place = same_number

-- the reply and the whole text
same_opened : {promised : Replied} (r r' : Reply Opening) (text text' : List ℕ) → replied r text ≡ promised → replied r' text' ≡ promised → (r ≡ r') × (text ≡ text')
same_opened r r' text text' e e' = (
  ap (λ (x : Replied). x.reply) (e ∙ sym e'),
  ap (λ (x : Replied). x.text) (e ∙ sym e'),
)

pub same_open_strict : (file : List ℕ) (room : ℕ) (r r' : Reply Opening) (text text' : List ℕ) → replied r text ≡ opened_strictly file room → replied r' text' ≡ opened_strictly file room →
    (r ≡ r') × (text ≡ text')
same_open_strict file room = same_opened

pub same_open : (file : List ℕ) (room : ℕ) (r r' : Reply Opening) (text text' : List ℕ) → replied r text ≡ opened_of file room → replied r' text' ≡ opened_of file room → (r ≡ r') × (text ≡ text')
same_open file room = same_opened
