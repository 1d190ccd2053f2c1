-- The words of a refusal: the code's texts have those of the table, and they are short. Assumes nothing.
use Rattle.numbers.proofs.Prelude.{ℕ, zero, suc, ◌+◌, ◌-◌, ◌≤◌, ◌<◌, eq-eqb, ne_eqb, eqb, leb, T, length, drop, get_or, drop_of_length-le, Bool, true, false, List, [], ◌∷◌, ◌++◌, append_assoc}
use Rattle.numbers.{proofs.Prelude.{append-nil, ◌≡◌, refl, sym, ap, ◌∙◌, arith}, specs.Answer.{if◌then◌else◌}}
use Prim.Native.String.{String}
use lib.Dec.{eqb→eq, leb→le}
use Rattle.calendar.proofs.Below.{all, below}
use Rattle.line.{proofs.Puts.{put_length, put_then, put_none, put_as}, specs.Put.{Put}}
use Rattle.shell.specs.{Text.{bytes}, Words.{table, words_in, words_of, line_at, Says}}
use Rattle.request.proofs.Texts as T

-- ---- a line of a text
line_end : (text : List ℕ) (byte : ℕ) → byte ≡ 10 → line_at 0 (byte ∷ text) ≡ []
unfolding line_at
line_end text byte h = rw (eq-eqb byte 10 h) refl

line_byte : (text : List ℕ) (byte : ℕ) → (byte ≡ 10 → ⊥) → line_at 0 (byte ∷ text) ≡ byte ∷ line_at 0 text
unfolding line_at
line_byte text byte h = rw (ne_eqb byte 10 h) refl

line_next : (number : ℕ) (text : List ℕ) (byte : ℕ) → byte ≡ 10 → line_at (suc number) (byte ∷ text) ≡ line_at number text
unfolding line_at
line_next number text byte h = rw (eq-eqb byte 10 h) refl

line_on : (number : ℕ) (text : List ℕ) (byte : ℕ) → (number ≡ 0 → ⊥) → (byte ≡ 10 → ⊥) → line_at number (byte ∷ text) ≡ line_at number text
unfolding line_at
line_on zero text byte n h = absurd (n refl)
line_on (suc number) text byte n h = rw (ne_eqb byte 10 h) refl

line_none : (number : ℕ) → line_at number [] ≡ []
unfolding line_at
line_none zero = refl
line_none (suc number) = refl

-- ---- putting it
-- some of the line was put, and what the text still has of it, from a place on, is the rest
pub record Still (before : List ℕ) (at : ℕ) (whole text out : List ℕ) (next left i : ℕ) : Type 0 where
  pub within : i ≤ length text
  pub done : List ℕ
  pub put : Put before at done out next
  pub rest : done ++ line_at left (drop i text) ≡ whole

pub still_begin : (before : List ℕ) (at number : ℕ) (text : List ℕ) → Still before at (line_at number text) text before at number 0
still_begin before at number text = record { within = omega arith; done = []; put = put_none before at; rest = refl }

module _ {before whole text out : List ℕ} {at next left i : ℕ} (s : Still before at whole text out next left i) where
  pub still_length : length out ≡ length before
  still_length = put_length s.put

  -- no more of it is left
  ended_as : line_at left (drop i text) ≡ [] → Put before at whole out next
  ended_as e = put_as (sym (append-nil s.done) ∙ ap (λ (l : List ℕ). s.done ++ l) (sym e) ∙ s.rest) s.put

  here : {l : List ℕ} → i < length text → line_at left (get_or text i 0 ∷ drop (i + 1) text) ≡ l → line_at left (drop i text) ≡ l
  here h e = ap (line_at left) (T.here text i h) ∙ e

  -- the line's end, and the text's
  pub still_end : i < length text → get_or text i 0 ≡ 10 → left ≡ 0 → Put before at whole out next
  still_end h e z = ended_as (here h (ap (λ (n : ℕ). line_at n (get_or text i 0 ∷ drop (i + 1) text)) z ∙ line_end (drop (i + 1) text) (get_or text i 0) e))

  pub still_past : length text ≤ i → Put before at whole out next
  still_past h = ended_as (ap (line_at left) (drop_of_length-le text h) ∙ line_none left)

  -- one of its bytes
  pub still_byte : {out' : List ℕ} {next' : ℕ} → i < length text → (get_or text i 0 ≡ 10 → ⊥) → left ≡ 0 → Put out next (get_or text i 0 ∷ []) out' next'
      → Still before at whole text out' next' left (i + 1)
  still_byte h n z p = let byte = get_or text i 0 in let behind = drop (i + 1) text in record {
    within = omega arith;
    done = s.done ++ (byte ∷ []);
    put = put_then s.done (byte ∷ []) s.put p;
    rest =
        append_assoc s.done (byte ∷ []) (line_at left behind)
        ∙ ap (λ (l : List ℕ). s.done ++ l) (sym (here h (ap (λ (k : ℕ). line_at k (byte ∷ behind)) z ∙ line_byte behind byte n ∙ ap (λ (k : ℕ). byte ∷ line_at k behind) (sym z))))
        ∙ s.rest;
  }

  -- a line before it ends, or goes on
  passed : (less : ℕ) → i < length text → line_at left (get_or text i 0 ∷ drop (i + 1) text) ≡ line_at less (drop (i + 1) text) → Still before at whole text out next less (i + 1)
  passed less h e = record { within = omega arith; done = s.done; put = s.put; rest = ap (λ (l : List ℕ). s.done ++ l) (sym (here h e)) ∙ s.rest }

  pub still_next : (less : ℕ) → i < length text → get_or text i 0 ≡ 10 → left ≡ suc less → Still before at whole text out next less (i + 1)
  still_next less h e z = passed less h (ap (λ (k : ℕ). line_at k (get_or text i 0 ∷ drop (i + 1) text)) z ∙ line_next less (drop (i + 1) text) (get_or text i 0) e)

  pub still_on : i < length text → (get_or text i 0 ≡ 10 → ⊥) → (left ≡ 0 → ⊥) → Still before at whole text out next left (i + 1)
  still_on h n z = passed left h (line_on left (drop (i + 1) text) (get_or text i 0) z n)

-- ---- the code's texts and the table
abbrev same : List ℕ → List ℕ → Bool
same [] [] = true
same [] (y ∷ ys) = false
same (x ∷ xs) [] = false
same (x ∷ xs) (y ∷ ys) = if eqb x y then same xs ys else false

same_if : (x y : ℕ) (xs ys : List ℕ) (t : Bool) → (T t → x ≡ y) → (T (same xs ys) → xs ≡ ys) → T (if t then same xs ys else false) → x ∷ xs ≡ y ∷ ys
same_if x y xs ys true p q h = λ i. p tt i ∷ q h i
same_if x y xs ys false p q h = absurd h

same_is : (xs ys : List ℕ) → T (same xs ys) → xs ≡ ys
same_is [] [] h = refl
same_is [] (y ∷ ys) h = absurd h
same_is (x ∷ xs) [] h = absurd h
same_is (x ∷ xs) (y ∷ ys) h = same_if x y xs ys (eqb x y) (eqb→eq x y) (same_is xs ys) h

-- so many lines of the text, from the first on, have the table's words; computed for a text in the code
abbrev pub says : ℕ → ℕ → List ℕ → Bool
says first count text = all (λ i. same (line_at i text) (bytes (words_of (first + i)))) count

pub says_all : (first count : ℕ) (text : List ℕ) → T (says first count text) → (number : ℕ) → first ≤ number → number < first + count → Says text first number
says_all first count text t number starts within = record {
  starts = starts;
  line =
      same_is (line_at (number - first) text) (bytes (words_of (first + (number - first))))
      (below (λ i. same (line_at i text) (bytes (words_of (first + i)))) count t (number - first) (omega arith))
      ∙ ap (λ (n : ℕ). bytes (words_of n)) (omega arith);
}

-- ---- at most 80 bytes
abbrev short : List (ℕ × String) → Bool
short [] = true
short ((known, words) ∷ more) = if leb (length (bytes words)) 80 then short more else false

short_if : (known : ℕ) (words : String) (more : List (ℕ × String)) (number : ℕ) (t u : Bool) → (T t → length (bytes words) ≤ 80)
    → (T (short more) → length (bytes (words_in more number)) ≤ 80) → T (if t then short more else false) → length (bytes (if u then words else words_in more number)) ≤ 80
short_if known words more number true true p q h = p tt
short_if known words more number true false p q h = q h
short_if known words more number false u p q h = absurd h

words_in_short : (rows : List (ℕ × String)) (number : ℕ) → T (short rows) → length (bytes (words_in rows number)) ≤ 80
unfolding words_in bytes
words_in_short [] number h = omega arith
words_in_short ((known, words) ∷ more) number h =
    short_if known words more number (leb (length (bytes words)) 80) (eqb number known) (leb→le (length (bytes words)) 80) (words_in_short more number) h

pub words_short : (number : ℕ) → length (bytes (words_of number)) ≤ 80
unfolding words_of table bytes
words_short number = words_in_short table number tt
