-- The requests of an input do not depend on the pieces that it comes in. Assumes nothing.
use Rattle.numbers.proofs.Prelude.{ℕ, ◌+◌, ◌≤◌, ◌<◌, eq-eqb, ne_eqb, eqb, length, take, drop, get_or, set, length-append, length-take-le, take_all, take-suc-set, take-append-le, Bool, true, false}
use Rattle.numbers.{proofs.Prelude.{List, [], ◌∷◌, ◌++◌, append_assoc, ◌≡◌, refl, sym, ap, ◌∙◌, add-one, arith}, specs.Answer.{if◌then◌else◌}}
use Rattle.request.proofs.Texts.{here}
use Rattle.shell.specs.{Kept.{most, push, ended, left}, Turn.{Took, done_of, rest_of}}

-- ---- a line's end, and another byte
pub ended_at : (line bytes : List ℕ) (byte : ℕ) → byte ≡ 10 → ended line (byte ∷ bytes) ≡ line ∷ ended [] bytes
unfolding ended
ended_at line bytes byte h = rw (eq-eqb byte 10 h) refl

pub ended_by : (line bytes : List ℕ) (byte : ℕ) → (byte ≡ 10 → ⊥) → ended line (byte ∷ bytes) ≡ ended (push line byte) bytes
unfolding ended
ended_by line bytes byte h = rw (ne_eqb byte 10 h) refl

pub left_at : (line bytes : List ℕ) (byte : ℕ) → byte ≡ 10 → left line (byte ∷ bytes) ≡ left [] bytes
unfolding left
left_at line bytes byte h = rw (eq-eqb byte 10 h) refl

pub left_by : (line bytes : List ℕ) (byte : ℕ) → (byte ≡ 10 → ⊥) → left line (byte ∷ bytes) ≡ left (push line byte) bytes
unfolding left
left_by line bytes byte h = rw (ne_eqb byte 10 h) refl

-- ---- pieces
ended_pieces_if : (line b a : List ℕ) (byte : ℕ) (t : Bool) → ended [] (a ++ b) ≡ ended [] a ++ ended (left [] a) b
    → ended (push line byte) (a ++ b) ≡ ended (push line byte) a ++ ended (left (push line byte) a) b
    → (if t then (line ∷ ended [] (a ++ b)) else ended (push line byte) (a ++ b)) ≡ (if t then (line ∷ ended [] a) else ended (push line byte) a) ++ ended
    (if t then left [] a else left (push line byte) a) b
ended_pieces_if line b a byte true p q = ap (λ (r : List (List ℕ)). line ∷ r) p
ended_pieces_if line b a byte false p q = q

-- the requests that end in two pieces are those of the first, and those of the second after what the first left
pub ended_pieces : (a b line : List ℕ) → ended line (a ++ b) ≡ ended line a ++ ended (left line a) b
unfolding ended left
ended_pieces [] b line = refl
ended_pieces (byte ∷ a) b line = ended_pieces_if line b a byte (eqb byte 10) (ended_pieces a b []) (ended_pieces a b (push line byte))

left_pieces_if : (line b a : List ℕ) (byte : ℕ) (t : Bool) → left [] (a ++ b) ≡ left (left [] a) b → left (push line byte) (a ++ b) ≡ left (left (push line byte) a) b
    → (if t then left [] (a ++ b) else left (push line byte) (a ++ b)) ≡ left (if t then left [] a else left (push line byte) a) b
left_pieces_if line b a byte true p q = p
left_pieces_if line b a byte false p q = q

pub left_pieces : (a b line : List ℕ) → left line (a ++ b) ≡ left (left line a) b
unfolding left
left_pieces [] b line = refl
left_pieces (byte ∷ a) b line = left_pieces_if line b a byte (eqb byte 10) (left_pieces a b []) (left_pieces a b (push line byte))

-- ---- one byte of a piece
pub took_none : (chunk : List ℕ) (from : ℕ) (line : List ℕ) → Took chunk from line [] from line
took_none chunk from line = record { requests = refl; rest = refl }

pub took_end : {chunk line l : List ℕ} {from at : ℕ} → Took chunk from line [] at l → at < length chunk → get_or chunk at 0 ≡ 10 → Took chunk from line (done_of true l) (at + 1) (rest_of true l)
unfolding done_of rest_of
took_end {chunk} {line} {l} {from} {at} t h e =
    record {
      requests = t.requests ∙ ap (ended l) (here chunk at h) ∙ ended_at l (drop (at + 1) chunk) (get_or chunk at 0) e;
      rest = t.rest ∙ ap (left l) (here chunk at h) ∙ left_at l (drop (at + 1) chunk) (get_or chunk at 0) e;
    }

pub took_more : {chunk line l : List ℕ} {from at : ℕ} (l' : List ℕ) → Took chunk from line [] at l → at < length chunk
    → (get_or chunk at 0 ≡ 10 → ⊥) → l' ≡ push l (get_or chunk at 0) → Took chunk from line [] (at + 1) l'
took_more {chunk} {line} {l} {from} {at} l' t h n e =
    record {
      requests = t.requests ∙ ap (ended l) (here chunk at h) ∙ ended_by l (drop (at + 1) chunk) (get_or chunk at 0) n ∙ ap (λ (x : List ℕ). ended x (drop (at + 1) chunk)) (sym e);
      rest = t.rest ∙ ap (left l) (here chunk at h) ∙ left_by l (drop (at + 1) chunk) (get_or chunk at 0) n ∙ ap (λ (x : List ℕ). left x (drop (at + 1) chunk)) (sym e);
    }

pub took_then : {chunk line l m : List ℕ} {from at next : ℕ} (xs ys : List (List ℕ)) → Took chunk from line xs at l → Took chunk at l ys next m → Took chunk from line (xs ++ ys) next m
took_then {chunk} {line} {l} {m} {from} {at} {next} xs ys p q =
    record {
      requests = p.requests ∙ ap (λ (r : List (List ℕ)). xs ++ r) q.requests ∙ sym (append_assoc xs ys (ended m (drop next chunk)));
      rest = p.rest ∙ q.rest;
    }

pub took_plain : {chunk line l : List ℕ} {from at : ℕ} → Took chunk from line [] at l → Took chunk from line (done_of false l) at (rest_of false l)
unfolding done_of rest_of
took_plain t = t

-- ---- the line's bytes
pub push_room : (space : List ℕ) (size byte : ℕ) → length space ≡ most → size < most → take (size + 1) (set space size byte) ≡ push (take size space) byte
unfolding push
push_room space size byte h k =
    ap (λ (n : ℕ). take n (set space size byte)) (add-one size) ∙ take-suc-set space size byte (omega arith) ∙ sym (take_all most (take size space ++ (byte ∷ []))
    (omega (arith, length-append (take size space) (byte ∷ []), length-take-le size space (omega arith))))

pub push_full : (space : List ℕ) (size byte : ℕ) → length space ≡ most → most ≤ size → take size space ≡ push (take size space) byte
unfolding push
push_full space size byte h k = let e : take size space ≡ space = take_all size space (omega arith) in
    let whole : length (take size space) ≡ most = ap length e ∙ h in
    sym (take-append-le most (take size space) (byte ∷ []) (omega arith) ∙ take_all most (take size space) (omega arith))
