-- From the matches to the slip, by how far the code came, and the reply with all that was lent. Assumes nothing.
use Rattle.numbers.proofs.{Lists.{zeros_drop}, Prelude.{ℕ, suc, ◌+◌, ◌≤◌, ◌<◌, min, eq-eqb, ne_eqb, le-leb, lt-leb, eqb, ℤ, length, take, drop, Bool, true, false, List, [], ◌∷◌, ◌++◌, ◌≡◌, refl}}
use Rattle.numbers.{proofs.{Prelude.{sym, ap, subst, ◌∙◌, arith}, Replies.{carried, onward, met, unmet, given_from, given_one}}, specs.{Lists.{zeros}, Reply.{Reply, given, refused, refusal, plain}}}
use Rattle.numbers.specs.{Reply.{demand, ◌>>=◌, ◌>>◌}, declared.refusal.Refusal.{Refusal}}
use Rattle.atlas.specs.Beside.{zones_beside}
use Rattle.header.specs.{Header.{head_of}, declared.header.Head.{Head}}
use Rattle.line.{proofs.Puts.{put_size, put_whole}, specs.Put.{far}}
use Rattle.request.specs.{Request.{request_of}, declared.read.Fix.{Fix}}
use Rattle.slip.specs.{Hour.{Hour, hour_of, hours_from}, Line.{line_of}, Slip.{Slip, place_of, on_globe, have_offset, agreed, fitted, slip_at, slip_of, replied, replied_of, slipped_at, slipped}}
use Rattle.slip.specs.{Told.{hour_at, Seen, Inked, Ink, ink_of, slip_with, Wrote, Filled, zeroed_unless}, declared.{hours.All.{All}, slip.Stamped.{Stamped}}}
use Rattle.table.{proofs.Agreeing.{agree_given, agree_refused, gave, refused_so}, specs.{Hits.{slots}, declared.hits.Hit.{Hit}, inner.Agreeing.{Agrees}}}
use Rattle.std.specs.Result.{is_err}
use Rattle.zones.{proofs.Lent.{Lent}, specs.{Lent.{Outcome}, declared.lookup.Zones.{Zones}}}

-- an hour for each match
pub as_many : (map : List ℕ) (head : Head) (zones : List ℕ) (instant : ℤ) (number : ℕ) (matches : List Hit) {hs : List Hour}
    → given hs ≡ hours_from map head zones instant number matches → length hs ≡ length matches
unfolding hours_from
as_many map head zones instant number [] e = ap length (given_one e)
as_many map head zones instant number (match ∷ matches) {hs} e =
    let rest = given_from (hours_from map head zones instant (number + 1) matches) _ (given_from (hour_of map head zones instant number match) _ e).onto in
    ap length (given_one rest.onto) ∙ ap suc (as_many map head zones instant (number + 1) matches rest.is)

-- ---- steps 5 to 8
module _ (fix : Fix) (map : List ℕ) (head : Head) (zones : List ℕ) (size : ℕ) (matches : List Hit) where
  abbrev hours : Reply (List Hour)
  hours = hours_from map head zones fix.instant 1 matches

  abbrev pub Says : List ℕ → Reply Stamped → Type 0
  Says out reply = Agrees (Wrote size out) (ink_of fix map head zones size matches) reply

  pub no_match : {why : Refusal} (out : List ℕ) → matches ≡ [] → why ≡ plain 86 → Says out (refused why)
  unfolding hours_from agreed
  no_match out e w = agree_refused (Wrote size out) (ap refused w ∙ ap (λ (ms : List Hit). ink_of fix map head zones size ms) (sym e))

  pub no_hours : {why : Refusal} (out : List ℕ) → refused why ≡ hours → Says out (refused why)
  no_hours out e = agree_refused (Wrote size out) (carried e _)

  module _ {hs : List Hour} (is : given hs ≡ hours) {all : All} (seen : Seen map zones hs all) where
    abbrev hour : Hour
    hour = hour_at map zones all.first

    agree_so : (test : Bool) → test ≡ have_offset all.first.offset hs → (demand test (plain 92) >> given hour) ≡ agreed hs
    unfolding agreed
    agree_so test e = ap (λ (t : Bool). demand t (plain 92) >> given hour) (e ∙ ap (have_offset all.first.offset) seen.are) ∙ ap agreed (sym seen.are)

    pub not_agreed : {why : Refusal} (out : List ℕ) → all.agree ≡ false → why ≡ plain 92 → Says out (refused why)
    not_agreed out n w = agree_refused (Wrote size out) (ap refused w ∙ carried (unmet refl (plain 92) (given hour) ∙ agree_so false (sym n ∙ seen.agree)) _ ∙ onward is _)

    module _ (yes : all.agree ≡ true) {before after : List ℕ} {next : ℕ} (ink : Inked hours hour before after next) (room : length before ≡ size) (short : size < far) where
      agreed_so : given hour ≡ agreed hs
      agreed_so = met refl (plain 92) (given hour) ∙ agree_so true (sym yes ∙ seen.agree)

      length_is : next ≡ min (length (line_of hour hs)) far
      length_is = put_size (ink.line (sym is)) (omega (arith, room, short))

      pub no_room : {why : Refusal} (out : List ℕ) → size < next → why ≡ refusal 18 0 next → Says out (refused why)
      unfolding fitted
      no_room out h w =
          agree_refused (Wrote size out) (ap refused (w ∙ ap (refusal 18 0) length_is) ∙ carried (unmet (lt-leb (length (line_of hour hs)) size (omega (arith, h, length_is)))
          (refusal 18 0 (min (length (line_of hour hs)) far)) (given (line_of hour hs))) _ ∙ onward agreed_so _ ∙ onward is _)

      pub stamped_so : {count : ℕ} {offset : ℤ} → before ≡ zeros size → next ≤ size → count ≡ length matches → offset ≡ all.first.offset
          → Says after (given (record { length = next; matches = count; offset = offset }))
      unfolding fitted
      stamped_so z fits count o = let w = put_whole (ink.line (sym is)) (omega (arith, room, short)) (omega (arith, room, fits)) in
          let whole : length (line_of hour hs) ≤ size = omega (arith, w.0, fits) in
          agree_given (Wrote size after)
          (onward (met (le-leb (length (line_of hour hs)) size whole) (refusal 18 0 (min (length (line_of hour hs)) far)) (given (line_of hour hs))) _ ∙ onward agreed_so _ ∙ onward is _)
          (record {
            said = λ i. record { length = w.0 i; matches = (count ∙ sym (as_many map head zones fix.instant 1 matches is)) i; offset = o i };
            kept = w.1 ∙ ap (λ (rest : List ℕ). line_of hour hs ++ rest) (ap (drop (length (line_of hour hs))) z ∙ zeros_drop (length (line_of hour hs)) size);
          })

-- ---- steps 2 to 8, in a map with this header
abbrev ink_with : Hour → List Hour → List ℕ → Ink
ink_with hour hours line = record { stamped = record { length = length line; matches = length hours; offset = hour.offset }; line = line }

abbrev ink_from : Hour → List Hour → List ℕ → Reply Ink
ink_from hour hours line = given (ink_with hour hours line)

abbrev slip_from : Outcome Zones → Ink → Reply Slip
slip_from outcome ink = given (record { stamped = ink.stamped; line = ink.line; matches = outcome.matches; text = outcome.text })

module _ (fix : Fix) (map : List ℕ) (head : Head) (atlas zones : List ℕ) (n room size : ℕ) where
  abbrev pub With : List ℕ → List ℕ → List ℕ → Reply Stamped → Type 0
  With hits text out reply = Agrees (Filled n room size hits text out) (slip_with fix map head atlas zones n room size) reply

  pub not_looked : {why : Refusal} (hits text out : List ℕ) → refused why ≡ zones_beside map head atlas (place_of fix) false n room → With hits text out (refused why)
  not_looked hits text out e = agree_refused (Filled n room size hits text out) (carried e _)

  module _ {found : Zones} {hits text : List ℕ} (l : Lent n room (zones_beside map head atlas (place_of fix) false n room) found hits text) where
    mark_is : found.mark ≡ l.outcome.answer.mark
    mark_is = ap (λ (z : Zones). z.mark) l.answered

    pub not_whole : {why : Refusal} (hs ts out : List ℕ) → (found.mark ≡ 1 → ⊥) → why ≡ refusal 85 0 found.mark → With hs ts out (refused why)
    not_whole hs ts out h w =
        agree_refused (Filled n room size hs ts out)
        (ap refused (w ∙ ap (refusal 85 0) mark_is) ∙ unmet (ne_eqb l.outcome.answer.mark 1 (λ e. h (mark_is ∙ e))) (refusal 85 0 l.outcome.answer.mark) _ ∙ onward l.is _)

    module _ (one : found.mark ≡ 1) where
      goes : (rest : Reply Slip) → rest ≡ (demand (eqb l.outcome.answer.mark 1) (refusal 85 0 l.outcome.answer.mark) >> rest)
      goes rest = met (eq-eqb l.outcome.answer.mark 1 (sym mark_is ∙ one)) (refusal 85 0 l.outcome.answer.mark) rest

      -- what was inked is the slip, with the lookup's matches and text
      whole : (ink : Reply Ink) → ink ≡ ink_of fix map head zones size l.outcome.matches → (ink >>= slip_from l.outcome) ≡ slip_with fix map head atlas zones n room size
      whole ink e = ap (λ (x : Reply Ink). x >>= slip_from l.outcome) e ∙ joined (hours_from map head zones fix.instant 1 l.outcome.matches) ∙ goes _ ∙ onward l.is _ where
        last : (hour : Hour) (hours : List Hour) (line : Reply (List ℕ)) → (line >>= ink_from hour hours >>= slip_from l.outcome) ≡ (line >>= λ line. slip_from l.outcome
            (ink_with hour hours line))
        last h hs (given line) = refl
        last h hs (refused why) = refl

        middle : (hours : List Hour) (hour : Reply Hour) → ((hour >>= λ hour. fitted size (line_of hour hours) >>= ink_from hour hours) >>= slip_from l.outcome) ≡
            (hour >>= λ hour. fitted size (line_of hour hours) >>= λ line. slip_from l.outcome (ink_with hour hours line))
        middle hs (given h) = last h hs (fitted size (line_of h hs))
        middle hs (refused why) = refl

        joined : (hours : Reply (List Hour)) → ((hours >>= λ hours. agreed hours >>= λ hour. fitted size (line_of hour hours) >>= ink_from hour hours) >>= slip_from l.outcome)
            ≡ (hours >>= λ hours. agreed hours >>= λ hour. fitted size (line_of hour hours) >>= λ line. slip_from l.outcome (ink_with hour hours line))
        joined (given hours) = middle hours (agreed hours)
        joined (refused why) = refl

      pub with_ink : (out : List ℕ) (reply : Reply Stamped) → Agrees (Wrote size out) (ink_of fix map head zones size (take found.matches (slots hits))) reply → With hits text out reply
      unfolding replied_of
      with_ink out (given stamped) a = let g = gave (Wrote size out) _ a refl in
          agree_given (Filled n room size hits text out) (whole (given g.it) (g.is ∙ ap (ink_of fix map head zones size) l.held))
          (λ i. replied (given (g.fits.said i)) (l.lent_hits i) (l.lent_text i) (g.fits.kept i))
      with_ink out (refused why) a =
          agree_refused (Filled n room size hits text out) (whole (refused why) (refused_so (Wrote size out) _ a refl ∙ ap (ink_of fix map head zones size) l.held))

-- ---- all of it
module _ (fix : Fix) (map atlas zones : List ℕ) (n room size : ℕ) where
  abbrev pub At : List ℕ → List ℕ → List ℕ → Reply Stamped → Type 0
  At hits text out reply = Agrees (Filled n room size hits text out) (slip_at fix map atlas zones n room size) reply

  pub not_placed : {why : Refusal} (hits text out : List ℕ) → on_globe fix ≡ false → why ≡ plain 84 → At hits text out (refused why)
  unfolding slip_at
  not_placed hits text out e w = agree_refused (Filled n room size hits text out) (ap refused w ∙ unmet e (plain 84) _)

  module _ (placed : on_globe fix ≡ true) where
    pub not_opened : {why : Refusal} (hits text out : List ℕ) → refused why ≡ head_of map → At hits text out (refused why)
    unfolding slip_at
    not_opened hits text out e = agree_refused (Filled n room size hits text out) (carried e _ ∙ met placed (plain 84) _)

    pub opened : {head : Head} (hits text out : List ℕ) (reply : Reply Stamped) → given head ≡ head_of map → Agrees (Filled n room size hits text out)
        (slip_with fix map head atlas zones n room size) reply → At hits text out reply
    unfolding slip_at
    opened hits text out reply e a = subst (λ (w : Reply Slip). Agrees (Filled n room size hits text out) w reply) (onward e _ ∙ met placed (plain 84) _) a

-- the reply with all that was lent, in the lengths that were lent
module _ (whole : ℕ → ℕ → ℕ → Reply Slip) (reply : Reply Stamped) (hs ts os : List ℕ) {n n' room room' size size' : ℕ} (h : n' ≡ n) (t : room' ≡ room) (o : size' ≡ size)
    (agrees : Agrees (Filled n' room' size' hs ts os) (whole n' room' size') reply) where
  settled : Agrees (Filled n room size hs ts os) (whole n room size) reply
  settled =
      subst (λ (k : ℕ). Agrees (Filled n room k hs ts os) (whole n room k) reply) o (subst (λ (k : ℕ). Agrees (Filled n k size' hs ts os) (whole n k size') reply) t
      (subst (λ (k : ℕ). Agrees (Filled k room' size' hs ts os) (whole k room' size') reply) h agrees))

  pub reply_so : length hs ≡ n → length ts ≡ room → length os ≡ size → zeroed_unless reply hs ts os ≡ replied_of n room size (whole n room size)
  unfolding replied_of
  reply_so l m k = go reply refl where
    go : (r : Reply Stamped) → reply ≡ r → zeroed_unless r hs ts os ≡ replied_of n room size (whole n room size)
    go (given stamped) e = let g = gave (Filled n room size hs ts os) (whole n room size) settled e in g.fits ∙ ap (replied_of n room size) g.is
    go (refused why) e = (λ i. replied (refused why) (zeros (l i)) (zeros (m i)) (zeros (k i))) ∙ ap (replied_of n room size) (refused_so (Filled n room size hs ts os) (whole n room size) settled e)

-- a request that is none, and what one means
module _ (request map atlas zones : List ℕ) (n room size : ℕ) where
  pub no_request : {why : Refusal} {hs ts os : List ℕ} → refused why ≡ request_of request → hs ≡ zeros n → ts ≡ zeros room → os ≡ zeros size
      → replied (refused why) hs ts os ≡ slipped request map atlas zones n room size
  unfolding slipped slip_of replied_of
  no_request {why} e zh zt zo = (λ i. replied (refused why) (zh i) (zt i) (zo i)) ∙ ap (replied_of n room size) (carried e _)

  pub asked_so : {fix : Fix} → given fix ≡ request_of request → slipped_at fix map atlas zones n room size ≡ slipped request map atlas zones n room size
  unfolding slipped slip_of slipped_at
  asked_so e = ap (replied_of n room size) (onward e _)

-- what was lent, zero where the answer is a refusal
module _ (hs ts os : List ℕ) where
  pub zeroed : (answer : Reply Stamped) {hs' ts' os' : List ℕ} → is_err answer ≡ true → hs' ≡ zeros (length hs) → ts' ≡ zeros (length ts) → os' ≡ zeros (length os)
      → replied answer hs' ts' os' ≡ zeroed_unless answer hs ts os
  zeroed (given stamped) e h t o = let z : ◌≡◌ {A = ℕ} 0 1 = cc in absurd (omega arith)
  zeroed (refused why) e h t o = λ i. replied (refused why) (h i) (t i) (o i)

  pub kept : (answer : Reply Stamped) → is_err answer ≡ false → replied answer hs ts os ≡ zeroed_unless answer hs ts os
  kept (given stamped) e = refl
  kept (refused why) e = let z : ◌≡◌ {A = ℕ} 0 1 = cc in absurd (omega arith)
