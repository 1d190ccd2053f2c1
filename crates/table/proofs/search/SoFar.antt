-- A search's loop, whatever is still to be searched: the hits so far, and what a turn makes of them. Assumes nothing.
use Rattle.numbers.proofs.Prelude.{ℕ, ◌+◌, ◌/◌, ◌≤◌, ◌<◌, lt-ltb, le-ltb, length, length-append, length-replicate, List, [], ◌∷◌, ◌++◌, ◌≡◌, refl, ap, ◌∙◌, sub-zero, arith}
use Rattle.numbers.specs.{Lists.{zeros, padded}, Reply.{Reply, given, plain}}
use Rattle.table.proofs.{Agreeing.{agree_given, agree_refused}, Words.{words_length, put_padded, real_append}}
use Rattle.table.specs.{Hits.{width, words, put_hit, Real}, Search.{Found, ended, after_turn, Sought}, declared.{hits.Hit.{Hit}, search.{Ended.{Ended}, Turn.{Turn}}}}
use Rattle.table.specs.{declared.search.Turn.TheVariants.{On, Met, Stopped, Refused}, inner.Agreeing.{Agrees}}
use Rattle.numbers.specs.Reply as R

-- the hits so far stand at the front of words that are zero beyond them, and what is still to be searched gives the whole
pub record SoFar (n : ℕ) (whole : Reply Found) (rest : ℕ → List Hit → Reply Found) (ws : List ℕ) (count least : ℕ) : Type 0 where
  pub hits : List Hit
  pub counted : length hits ≡ count
  pub fits : count ≤ n / width
  pub kept : ws ≡ padded n (words hits)
  pub real : Real hits
  pub so_far : rest least hits ≡ whole

-- how a search ends
abbrev pub how : ℕ → ℕ → ℕ → Ended
how count mark last = record { count = count; mark = mark; least = last }

pub starts : (n : ℕ) {whole : Reply Found} (rest : ℕ → List Hit → Reply Found) (ws : List ℕ) (least : ℕ) → ws ≡ zeros n → rest least [] ≡ whole → SoFar n whole rest ws 0 least
unfolding words Real
starts n rest ws least z e = record { hits = []; counted = refl; fits = omega arith; kept = simp sub-zero z; real = tt; so_far = e }

module _ {n : ℕ} {whole : Reply Found} {rest : ℕ → List Hit → Reply Found} {ws : List ℕ} {count least : ℕ} (g : SoFar n whole rest ws count least) where
  pub kept_length : length ws ≡ n
  kept_length = ap length g.kept ∙ length-append (words g.hits) _ ∙ rw length-replicate (omega (arith, words_length g.hits, g.counted, g.fits))

  pub ends : (mark last : ℕ) → ended g.hits mark last ≡ whole → Agrees (Sought n ws) whole (given (how count mark last))
  ends mark last e = agree_given (Sought n ws) e (record { said = rw g.counted refl; kept = g.kept; real = g.real })

  -- what a turn gives, with what is to be searched after it, is the whole
  module _ (rest' : ℕ → List Hit → Reply Found) where
    abbrev pub Turned : Turn → Type 0
    Turned t = after_turn t g.hits (n / width) rest' ≡ whole

    pub stops : {mark last : ℕ} → Turned (Stopped mark last) → Agrees (Sought n ws) whole (given (how count mark last))
    stops {mark} {last} e = ends mark last e

    pub refuses : (ws' : List ℕ) {k : ℕ} → Turned (Refused k) → Agrees (Sought n ws') whole (R.refused (plain k))
    refuses ws' e = agree_refused (Sought n ws') e

    pub on : {closer : ℕ} → Turned (On closer) → SoFar n whole rest' ws count closer
    on e = record { hits = g.hits; counted = g.counted; fits = g.fits; kept = g.kept; real = g.real; so_far = e }

    module _ (hit : Hit) (closer : ℕ) (e : Turned (Met hit closer)) where
      pub full : (ws' : List ℕ) → n / width ≤ count → Agrees (Sought n ws') whole (R.refused (plain 17))
      full ws' h = agree_refused (Sought n ws') (simp (le-ltb (length g.hits) (n / width) (omega (arith, g.counted))) at e)

      pub met : count < n / width → (hit.kind ≡ 0 → ⊥) → SoFar n whole rest' (put_hit ws count hit) (count + 1) closer
      met room kind = let slot : length g.hits < n / width = omega (arith, g.counted) in record {
        hits = g.hits ++ hit ∷ [];
        counted = length-append g.hits (hit ∷ []) ∙ ap (λ (k : ℕ). k + 1) g.counted;
        fits = omega arith;
        kept = rw (g.kept, ← g.counted) (put_padded n g.hits hit slot);
        real = real_append g.hits hit g.real kind;
        so_far = simp (lt-ltb (length g.hits) (n / width) slot) at e;
      }
