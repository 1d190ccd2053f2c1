-- The line for an answer: which it is, that there is one, and that it has room. Assumes nothing.
use Rattle.numbers.proofs.Prelude.{ℕ, zero, suc, ◌-◌, ◌≤◌, ◌<◌, eq-eqb, ne_eqb, lt-ltb, le-ltb, ℤ, pos, negsuc, length, take, drop, length-append, length-drop, length-map, length-replicate}
use Rattle.numbers.{proofs.Prelude.{length-take-le, take_all, List, [], ◌∷◌, ◌++◌, map, ◌≡◌, refl, sym, ap, subst, ◌∙◌, le_refl, arith}, specs.Lists.{zeros}}
use Rattle.calendar.{proofs.SameCivil.{same_civil}, specs.{Civil.{CivilOf}, declared.civil.Reading.{Reading}}}
use Rattle.localtime.specs.{Local.{local_time, scale_at}, declared.scale.Scale.{Scale}}
use Rattle.hour.specs.{Hour.{instant_of, on_scale, shown_by, answer_of, civil_line, LineFor, Answered, Printed}, Line.{clock_text, signed_text, hour_line, unknown_line, refused_line}}
use Rattle.line.{proofs.{Decimals.{decimal_short}, Puts.{put_length, put_front}}, specs.{Clock.{date_text, time_text, shown}, Put.{Put, decimal}}}
use Rattle.tzif.specs.{Local.{Replied, replied}, Reply.{Reply, given, refused, refusal}, declared.{local.Local.{Local}, refusal.Refusal.{Refusal}}}
use Rattle.std.specs.Prelude.{Option, Some, None}

-- two lines that the promise permits are equal
pub one_line : (instant : ℤ) (reply : Reply (Option Local)) (text a b : List ℕ) → LineFor instant reply text a → LineFor instant reply text b → a ≡ b
unfolding LineFor
one_line instant (given (Some local)) text a b p q =
    p.is ∙ ap (civil_line local (take local.length text)) (same_civil instant local.offset p.civil q.civil p.shows q.shows) ∙ sym q.is
one_line instant (given None) text a b p q = p ∙ sym q
one_line instant (refused why) text a b p q = p ∙ sym q

-- two buffers that the promise of the program permits begin with the same line, of the same length
pub one_printed : {input : List ℕ} {room : ℕ} {out out' : List ℕ} {used used' : ℕ} → Printed input room out used → Printed input room out' used' → (take used out ≡
    take used' out') × (used ≡ used')
one_printed {input} {room} {out} {out'} {used} {used'} p q =
    let same = p.whole ∙ one_line (instant_of input) (answer_of input room).reply (answer_of input room).text p.line q.line p.is q.is ∙ sym q.whole in
    (same, sym (length-take-le used out p.fits) ∙ ap length same ∙ length-take-le used' out' q.fits)

-- ---- how long a line is
refused_short : (why : Refusal) → length (refused_line why) ≤ 512
unfolding refused_line
refused_short why = let number = decimal why.number in let detail = decimal why.detail in
    omega (arith, length-append number ((32 ∷ detail) ++ (10 ∷ [])), length-append detail (10 ∷ []), decimal_short why.number, decimal_short why.detail)

signed-short : (z : ℤ) → length (signed_text z) ≤ 21
unfolding signed_text
signed-short (pos n) = omega (arith, decimal_short n)
signed-short (negsuc n) = omega (arith, decimal_short (suc n))

clock_short : (reading : Reading) → length (clock_text reading) ≤ 45
unfolding clock_text date_text time_text
clock_short reading = omega (arith, decimal_short reading.weekday)

hour-short : (reading : Reading) (local : Local) (name : List ℕ) → length name ≤ 256 → length (hour_line reading local name) ≤ 512
unfolding hour_line
hour-short reading local name h = let clock = clock_text reading in let offset = signed_text local.offset in let daylight = decimal local.daylight in
    let shows = map shown name in
    omega (
      arith,
      h,
      clock_short reading,
      signed-short local.offset,
      decimal_short local.daylight,
      length-map name shown,
      length-append clock ((32 ∷ offset) ++ ((32 ∷ daylight) ++ ((32 ∷ shows) ++ (10 ∷ [])))),
      length-append offset ((32 ∷ daylight) ++ ((32 ∷ shows) ++ (10 ∷ []))),
      length-append daylight ((32 ∷ shows) ++ (10 ∷ [])),
      length-append shows (10 ∷ []),
    )

civil-short : (local : Local) (name : List ℕ) (civil : Option Reading) → length name ≤ 256 → length (civil_line local name civil) ≤ 512
unfolding civil_line
civil-short local name (Some reading) h = hour-short reading local name h
civil-short local name None h = refused_short (refusal 61 0)

taken-short : (n : ℕ) (text : List ℕ) → length (take n text) ≤ length text
taken-short zero text = omega arith
taken-short (suc n) [] = omega arith
taken-short (suc n) (x ∷ text) = omega (arith, taken-short n text)

-- with 256 bytes for the abbreviation every line has room in 512
pub line_short : (instant : ℤ) (reply : Reply (Option Local)) (text line : List ℕ) → LineFor instant reply text line → length text ≤ 256 → length line ≤ 512
unfolding LineFor
line_short instant (given (Some local)) text line p h =
    omega (arith, ap length p.is, civil-short local (take local.length text) p.civil (omega (arith, h, taken-short local.length text)))
line_short instant (given None) text line p h = omega (arith, ap length p)
line_short instant (refused why) text line p h = omega (arith, ap length p, refused_short why)

-- ---- the ways of `put_local` and `put_answer`
moved : {instant at o offset : ℤ} (civil : Option Reading) → at ≡ instant → offset ≡ o → CivilOf at offset civil → CivilOf instant o civil
moved {instant} {at} {o} {offset} civil i e s = subst (λ (z : ℤ). CivilOf z o civil) i (subst (λ (z : ℤ). CivilOf at z civil) e s)

module _ {before after : List ℕ} {next : ℕ} where
  pub answered-hour : {instant at offset : ℤ} (local : Local) (text : List ℕ) → at ≡ instant → offset ≡ local.offset → {civil : Option Reading} → CivilOf at offset civil
      → {reading : Reading} → civil ≡ Some reading → Put before 0 (hour_line reading local (take local.length text)) after next
      → Answered instant (replied (given (Some local)) text) before after next
  unfolding LineFor civil_line
  answered-hour {instant} local text i o {civil} s {reading} e p =
      record {
        line = hour_line reading local (take local.length text);
        is = record { civil = Some reading; shows = subst (CivilOf instant local.offset) e (moved civil i o s); is = refl };
        put = p;
      }

  pub answered-outside : {instant at offset : ℤ} (local : Local) (text : List ℕ) → at ≡ instant → offset ≡ local.offset → {civil : Option Reading} → CivilOf at offset civil
      → civil ≡ None → Put before 0 (refused_line (refusal 61 0)) after next → Answered instant (replied (given (Some local)) text) before after next
  unfolding LineFor civil_line
  answered-outside {instant} local text i o {civil} s e p =
      record {
        line = refused_line (refusal 61 0);
        is = record { civil = None; shows = subst (CivilOf instant local.offset) e (moved civil i o s); is = refl };
        put = p;
      }

  pub answered-unknown : (instant : ℤ) (text : List ℕ) {reply : Reply (Option Local)} → reply ≡ (given None) → Put before 0 unknown_line after next → Answered instant (replied
      reply text) before after next
  unfolding LineFor
  answered-unknown instant text e p = subst (λ (r : Reply (Option Local)). Answered instant (replied r text) before after next) (sym e) (record {
    line = unknown_line;
    is =
        refl;
    put = p;
  })

  pub answered-refused : (instant : ℤ) (text : List ℕ) {reply : Reply (Option Local)} (why : Refusal) → reply ≡ refused why → Put before 0 (refused_line why) after next
      → Answered instant (replied reply text) before after next
  unfolding LineFor
  answered-refused instant text why e p = subst (λ (r : Reply (Option Local)). Answered instant (replied r text) before after next) (sym e) (record {
    line = refused_line why;
    is = refl;
    put = p;
  })

  pub answered-as : {at instant : ℤ} {answer answer' : Replied} → at ≡ instant → answer ≡ answer' → Answered at answer before after next → Answered instant answer'
      before after next
  answered-as {at} {instant} {answer} {answer'} i e a = subst (λ (z : ℤ). Answered z answer' before after next) i (subst (λ (r : Replied). Answered at r before
      after next) e a)

-- ---- the two ways of `on_scale`
module _ (kind : ℕ) (time : Reply (Option Local)) where
  pub own_scale : kind ≡ 2 → refused (refusal 91 0) ≡ on_scale kind time
  unfolding on_scale
  own_scale e = simp (eq-eqb kind 2 e)

  pub other-scale : (kind ≡ 2 → ⊥) → time ≡ on_scale kind time
  unfolding on_scale
  other-scale h = simp (ne_eqb kind 2 h)

-- ---- the ways of `hour`
module _ (input : List ℕ) (room : ℕ) where
  too_long : 65536 < length input → replied (refused (refusal 1 0)) (zeros room) ≡ answer_of input room
  unfolding answer_of
  too_long h = rw (lt-ltb 65536 (length input) h) refl

  too_short : length input ≤ 65536 → length input < 8 → replied (refused (refusal 2 (length input))) (zeros room) ≡ answer_of input room
  unfolding answer_of
  too_short l h = rw (le-ltb 65536 (length input) l, lt-ltb (length input) 8 h) refl

  asked : length input ≤ 65536 → 8 ≤ length input → shown_by (drop 8 input) (instant_of input) room ≡ answer_of input room
  unfolding answer_of
  asked l h = rw (le-ltb 65536 (length input) l, le-ltb (length input) 8 h) refl

  module _ {before after : List ℕ} {next : ℕ} where
    printed : Answered (instant_of input) (answer_of input room) before after next → length (answer_of input room).text ≤ 256 → 512 ≤ length before → Printed input
        room after next
    printed a small large = let short = line_short (instant_of input) (answer_of input room).reply (answer_of input room).text a.line a.is small in
        let front = put_front a.put (omega (arith, short, large)) in
        record { line = a.line; is = a.is; fits = omega (arith, front.0, short, large, put_length a.put); whole = front.1 }

    zeroed : {why : Refusal} → replied (refused why) (zeros room) ≡ answer_of input room → room ≤ 256 → 512 ≤ length before → Put before 0 (refused_line why) after next
        → Printed input room after next
    zeroed {why} e small large p =
        printed (answered-as refl e (answered-refused (instant_of input) (zeros room) why refl p)) (omega (
          arith,
          ap (λ (r : Replied). length r.text) e,
          length-replicate {A = ℕ} room 0,
          small,
        ))
        large

    pub printed-long : 65536 < length input → room ≤ 256 → 512 ≤ length before → Put before 0 (refused_line (refusal 1 0)) after next → Printed input room after next
    printed-long h = zeroed (too_long h)

    pub printed-short : length input ≤ 65536 → length input < 8 → room ≤ 256 → 512 ≤ length before → Put before 0 (refused_line (refusal 2 (length input))) after
        next → Printed input room after next
    printed-short l h = zeroed (too_short l h)

    pub printed-answer : length input ≤ 65536 → 8 ≤ length input → {at at' : ℤ} {file text : List ℕ} {time reply : Reply (Option Local)} {scale : Scale} → at ≡ instant_of input
        → at' ≡ instant_of input → file ≡ drop 8 input → replied time text ≡ local_time file at room → scale ≡ scale_at file at → reply ≡ on_scale scale.kind time
        → length text ≤ 256 → 512 ≤ length before → Answered at' (replied reply text) before after next → Printed input room after next
    printed-answer l h {at} {at'} {file} {text} {time} {reply} {scale} i i' f e s r small large a =
        let shows : replied reply text ≡ shown_by file at room =
        ap (λ (x : Reply (Option Local)). replied x text) (r ∙ ap (λ (x : Scale). on_scale x.kind time) s)
        ∙ ap (λ (x : Replied). replied (on_scale (scale_at file at).kind x.reply) x.text) e in
        let same = shows ∙ (λ k. shown_by (f k) (i k) room) ∙ asked l h in
        printed (answered-as i' same a) (omega (arith, ap (λ (x : Replied). length x.text) same, small)) large

-- the file behind the instant, as it is lent
pub behind : (input : List ℕ) → take (length input - 8) (drop 8 input) ≡ drop 8 input
behind input = take_all (length input - 8) (drop 8 input) (rw length-drop (le_refl (length input - 8)))
