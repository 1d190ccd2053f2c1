-- Reading names. Assumes nothing.
use Rattle.numbers.proofs.Prelude.{ℕ, zero, suc, ◌+◌, ◌-◌, ◌≤◌, ◌<◌, eq-eqb, ne_eqb, lt-ltb, le-ltb, le-leb, lt-leb, ltb-true, ltb-false, eqb, ltb, leb, length, Bool, true, false, List, ◌≡◌, refl, sym, ap, ◌∙◌, arith}
use Rattle.numbers.proofs.Prelude.{cond, not, take, drop, get_or, length-drop, drop_of_length-le, drop-cons, take_all, [], ◌∷◌, add-one}
use Rattle.std.{proofs.lemmas.List.Sums.{prefix_len-le-length}, specs.{Prelude.{Some, None, position}, List.{position_or_len}}}
use Rattle.numbers.specs.Answer.{if◌then◌else◌}
use Rattle.tzrule.specs.{Answer.{read, fault}, Names.{is_letter, in_name, name_end, end_of, bare_of, quoted_of}, Text.{byte_at, is_digit}}

module _ (byte : ℕ) where
  pub below_capitals : byte < 65 → false ≡ is_letter byte
  unfolding is_letter
  below_capitals h = simp (lt-ltb byte 65 h)

  pub capital : 65 ≤ byte → byte < 91 → true ≡ is_letter byte
  unfolding is_letter
  capital h k = simp (le-ltb byte 65 h, lt-ltb byte 91 k)

  pub below_smalls : 91 ≤ byte → byte < 97 → false ≡ is_letter byte
  unfolding is_letter
  below_smalls k l = simp (le-ltb byte 65 (omega arith), le-ltb byte 91 k, lt-ltb byte 97 l)

  pub small : 91 ≤ byte → 97 ≤ byte → ltb byte 123 ≡ is_letter byte
  unfolding is_letter
  small k l = simp (le-ltb byte 65 (omega arith), le-ltb byte 91 k, le-ltb byte 97 l)

  module _ (quoted : Bool) {letter : Bool} (p : letter ≡ is_letter byte) where
    pub by_letter : letter ≡ true → true ≡ in_name quoted byte
    unfolding in_name
    by_letter h = simp (sym p ∙ h)

    pub by_none : letter ≡ false → quoted ≡ false → false ≡ in_name quoted byte
    unfolding in_name
    by_none h q = simp (sym p ∙ h, q)

    module _ {digit : Bool} (n : letter ≡ false) (q : quoted ≡ true) (d : digit ≡ is_digit byte) where
      pub by_digit : digit ≡ true → true ≡ in_name quoted byte
      unfolding in_name
      by_digit h = simp (sym p ∙ n, q, sym d ∙ h)

      pub by_plus : digit ≡ false → byte ≡ 43 → true ≡ in_name quoted byte
      unfolding in_name
      by_plus h e = simp (sym p ∙ n, q, sym d ∙ h, eq-eqb byte 43 e)

      pub by_minus : digit ≡ false → (byte ≡ 43 → ⊥) → eqb byte 45 ≡ in_name quoted byte
      unfolding in_name
      by_minus h e = simp (sym p ∙ n, q, sym d ∙ h, ne_eqb byte 43 e)

-- a byte more, or none
end_more : (k : ℕ) (quoted : Bool) (text : List ℕ) (at : ℕ) → in_name quoted (byte_at text at) ≡ true → name_end (suc k) quoted text at ≡ name_end k quoted text (at + 1)
unfolding name_end
end_more k quoted text at e = simp e

end_stop : (k : ℕ) (quoted : Bool) (text : List ℕ) (at : ℕ) → in_name quoted (byte_at text at) ≡ false → name_end (suc k) quoted text at ≡ at
unfolding name_end
end_stop k quoted text at e = simp e

end_none : (quoted : Bool) (text : List ℕ) (at : ℕ) → name_end 0 quoted text at ≡ at
unfolding name_end
end_none quoted text at = refl

-- as many as stand before the first byte that is none of a name
abbrev pub other : Bool → ℕ → Bool
other quoted byte = not (in_name quoted byte)

module _ (quoted : Bool) (text : List ℕ) where
  end_run : (n at : ℕ) → n ≡ length text - at → at + position_or_len (other quoted) (drop at text) ≡ name_end n quoted text at
  unfolding byte_at
  end_run zero at e = let none : drop at text ≡ [] = drop_of_length-le text {i = at} (omega arith) in rw none (let start : at + 0 ≡ at = omega arith in start ∙ sym (end_none quoted text at))
  end_run (suc n) at e = let cons : drop at text ≡ get_or text at 0 ∷ drop (at + 1) text = rw (add-one, drop-cons text at 0 (omega arith)) in
      rw cons (go (in_name quoted (byte_at text at)) refl (end_run n (at + 1) (omega arith))) where
        go : (t : Bool) → in_name quoted (byte_at text at) ≡ t → at + 1 + position_or_len (other quoted) (drop (at + 1) text) ≡ name_end n quoted text (at + 1)
            → at + position_or_len (other quoted) (get_or text at 0 ∷ drop (at + 1) text) ≡ name_end (suc n) quoted text at
        go true t h = rw t (omega (arith, h, end_more n quoted text at t))
        go false t h = rw t (omega (arith, end_stop n quoted text at t))

  module _ (at : ℕ) where
    by_place : (t : Bool) {size : ℕ} (xs : List ℕ) → ltb (position_or_len (other quoted) xs) (length xs) ≡ t
        → cond t (Some (position_or_len (other quoted) xs)) None ≡ Some size → (size ≡ position_or_len (other quoted) xs) × (size < length xs)
    by_place true {size} xs f e = let same : size ≡ position_or_len (other quoted) xs = cc in (same, omega (arith, same, ltb-true (position_or_len (other quoted) xs) (length xs) f))
    by_place false xs f e = let z : ◌≡◌ {A = ℕ} 0 1 = cc in absurd (omega arith)

    no_place : (t : Bool) (xs : List ℕ) → ltb (position_or_len (other quoted) xs) (length xs) ≡ t
        → cond t (Some (position_or_len (other quoted) xs)) None ≡ None → position_or_len (other quoted) xs ≡ length xs
    no_place true xs f e = let z : ◌≡◌ {A = ℕ} 0 1 = cc in absurd (omega arith)
    no_place false xs f e = omega (arith, ltb-false (position_or_len (other quoted) xs) (length xs) f, prefix_len-le-length (λ x. not (other quoted x)) xs)

    rest_is : take (length text - at) (drop at text) ≡ drop at text
    rest_is = take_all (length text - at) (drop at text) (omega (arith, length-drop at text))

    pub name_stops : {size : ℕ} → at ≤ length text → Some size ≡ position (other quoted) (take (length text - at) (drop at text))
        → (at + size ≡ end_of quoted text at) × (at + size ≤ length text)
    unfolding end_of
    name_stops h e = let found = by_place _ (drop at text) refl (ap (position (other quoted)) (sym rest_is) ∙ sym e) in
        (omega (arith, found.0, end_run (length text - at) at refl), omega (arith, found.1, length-drop at text))

    pub name_runs_out : at ≤ length text → None ≡ position (other quoted) (take (length text - at) (drop at text)) → length text ≡ end_of quoted text at
    unfolding end_of
    name_runs_out h e = let none = no_place _ (drop at text) refl (ap (position (other quoted)) (sym rest_is) ∙ sym e) in
        omega (arith, none, length-drop at text, end_run (length text - at) at refl)

-- the ways of a name
module _ (text : List ℕ) (at : ℕ) where
  pub bare_short : {end : ℕ} → end ≡ end_of false text at → end < at + 3 → fault end ≡ bare_of text at
  unfolding bare_of
  bare_short e h = ap fault e ∙ simp (lt-ltb (end_of false text at) (at + 3) (rw e at h))

  pub bare_read : {end : ℕ} → end ≡ end_of false text at → at + 3 ≤ end → read (record { start = at; end = end }) end ≡ bare_of text at
  unfolding bare_of
  bare_read e h = ap (λ (x : ℕ). read (record { start = at; end = x }) x) e ∙ simp (le-ltb (end_of false text at) (at + 3) (rw e at h))

  module _ {end : ℕ} (e : end ≡ end_of true text at) where
    pub quoted_short : end < at + 3 → fault end ≡ quoted_of text at
    unfolding quoted_of
    quoted_short h = ap fault e ∙ simp (lt-ltb (end_of true text at) (at + 3) (rw e at h))

    -- behind three bytes or more: the bracket
    module _ (h : at + 3 ≤ end) where
      pub quoted_read : eqb (byte_at text end) 62 ≡ true → quoted_of text at ≡ read (record { start = at; end = end }) (end + 1)
      unfolding quoted_of
      quoted_read t = rw (← e, le-ltb end (at + 3) h, t) refl

      pub quoted_open : eqb (byte_at text end) 62 ≡ false → quoted_of text at ≡ fault end
      unfolding quoted_of
      quoted_open t = rw (← e, le-ltb end (at + 3) h, t) refl
