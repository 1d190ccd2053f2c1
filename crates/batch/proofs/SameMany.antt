-- What the promise fixes: two replies that it permits are equal, with all three lists; and a refusal leaves all of them zero. Assumes nothing.
use Rattle.numbers.{proofs.Prelude.{ℕ, Float, Bool, List, ◌≡◌, refl, sym, ap, ◌∙◌, arith}, specs.{Lists.{zeros}, declared.refusal.Refusal.{Refusal}}}
use Rattle.batch.specs.{Many.{Batch, given, refused, Stamped, Left, left, left_of, stamped_many, many_beside, told_many}, declared.many.{Stop.{Stop}, Totals.{Totals}}}
use Rattle.std.specs.Prelude.{Result, Ok, Err}

many_back : Batch Totals → Result Totals Stop
many_back (given totals) = Ok totals
many_back (refused index why) = Err (record { index = index; why = why })

many_again : (r : Result Totals Stop) → many_back (told_many r) ≡ r
unfolding many_back
many_again (Ok totals) = refl
many_again (Err stop) = refl

pub same_many : (file words : List ℕ) (lats lons : List Float) (asked : Bool) (n room third : ℕ) (r r' : Result Totals Stop) (hs hs' ts ts' told told' : List ℕ)
    → left (told_many r) hs ts told ≡ many_beside file words lats lons asked n room third → left (told_many r') hs' ts' told' ≡ many_beside file words lats lons asked n room third
    → (r ≡ r') × (hs ≡ hs') × (ts ≡ ts') × (told ≡ told')
same_many file words lats lons asked n room third r r' hs hs' ts ts' told told' e e' = let same = e ∙ sym e' in (
  sym (many_again r) ∙ ap (λ (x : Left). many_back x.reply) same ∙ many_again r',
  ap (λ (x : Left). x.hits) same,
  ap (λ (x : Left). x.text) same,
  ap (λ (x : Left). x.answers) same,
)

all_zero : (n room third : ℕ) (b : Batch Stamped) (index : ℕ) (why : Refusal) → (left_of n room third b).reply ≡ refused index why
    → ((left_of n room third b).hits ≡ zeros n) × ((left_of n room third b).text ≡ zeros room) × ((left_of n room third b).answers ≡ zeros third)
unfolding left_of
all_zero n room third (given so) index why e = let z : ◌≡◌ {A = ℕ} 0 1 = cc in absurd (omega arith)
all_zero n room third (refused i w) index why e = (refl, refl, refl)

-- A refused call leaves every word and byte of all three lists zero.
pub many_refusal_zeroes : (file words : List ℕ) (lats lons : List Float) (asked : Bool) (n room third index : ℕ) (why : Refusal)
    → (many_beside file words lats lons asked n room third).reply ≡ refused index why → ((many_beside file words lats lons asked n room third).hits ≡ zeros n) ×
    ((many_beside file words lats lons asked n room third).text ≡ zeros room) × ((many_beside file words lats lons asked n room third).answers ≡ zeros third)
unfolding many_beside
many_refusal_zeroes file words lats lons asked n room third = all_zero n room third (stamped_many file words lats lons asked n room third)
