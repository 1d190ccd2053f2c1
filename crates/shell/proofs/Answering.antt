-- What is written for a request: the slip's line with its end, or the reason. Assumes nothing.
use Rattle.numbers.proofs.Prelude.{ℕ, ◌+◌, ◌-◌, ◌≤◌, ◌<◌, eq-eqb, ne_eqb, length, take, drop, set, length-append, length-drop, length-set, take_at, take-suc-set, List, [], ◌∷◌, ◌++◌, append_assoc}
use Rattle.numbers.proofs.Prelude.{◌≡◌, refl, sym, ap, subst, ◌∙◌, add-one, arith}
use Rattle.numbers.{proofs.Replies.{given_one}, specs.{Lists.{zeros, padded}, Reply.{Reply, given, refused, ◌>>=◌}, declared.refusal.Refusal.{Refusal}}}
use Rattle.line.{proofs.{Decimals.{decimal_short}, Puts.{put_front, put_length}}, specs.Put.{Put, decimal}}
use Rattle.shell.proofs.Saying.{words_short}
use Rattle.shell.specs.{Answer.{hit_words, text_room, line_room, slip_for, reason_line, line_for, fault_for, Rooms, Answers}, Text.{bytes}, Words.{words_of}}
use Rattle.slip.{proofs.Length.{slip_length}, specs.{Slip.{Slip, slip_of, Replied, replied, replied_of, slipped}, declared.slip.Stamped.{Stamped}}}

-- ---- a reason
said_short : length (bytes "not stamped:") ≤ 12
unfolding bytes
said_short = omega arith

reason_short : (why : Refusal) → length (reason_line why) ≤ line_room + 1
unfolding reason_line
reason_short why = let words = bytes (words_of why.number) in let behind = words ++ (10 ∷ []) in let detail = decimal why.detail ++ (32 ∷ behind) in
    let cause = decimal why.cause ++ (32 ∷ detail) in let number = decimal why.number ++ (32 ∷ cause) in
    omega (
      arith,
      said_short,
      length-append (bytes "not stamped:") (32 ∷ number),
      length-append (decimal why.number) (32 ∷ cause),
      length-append (decimal why.cause) (32 ∷ detail),
      length-append (decimal why.detail) (32 ∷ behind),
      length-append words (10 ∷ []),
      decimal_short why.number,
      decimal_short why.cause,
      decimal_short why.detail,
      words_short why.number,
    )

line_none : (why : Refusal) → why.number ≡ 83 → [] ≡ line_for (refused why)
unfolding line_for
line_none why e = rw (eq-eqb why.number 83 e) refl

line_why : (why : Refusal) → (why.number ≡ 83 → ⊥) → reason_line why ≡ line_for (refused why)
unfolding line_for
line_why why n = rw (ne_eqb why.number 83 n) refl

fault_none : (why : Refusal) → why.number ≡ 83 → 0 ≡ fault_for (refused why)
unfolding fault_for
fault_none why e = rw (eq-eqb why.number 83 e) refl

fault_why : (why : Refusal) → (why.number ≡ 83 → ⊥) → 1 ≡ fault_for (refused why)
unfolding fault_for
fault_why why n = rw (ne_eqb why.number 83 n) refl

pub passed_over : {hits text out : List ℕ} (why : Refusal) → Rooms hits text out → why.number ≡ 83 → Answers (refused why) hits text out (record { size = 0; fault = 0 })
passed_over why rooms e = record { rooms = rooms; fits = omega arith; line = line_none why e; fault = fault_none why e }

pub said_why : {hits text before out : List ℕ} (why : Refusal) (size : ℕ) → Rooms hits text before → (why.number ≡ 83 → ⊥) → Put before 0 (reason_line why) out size
    → Answers (refused why) hits text out (record { size = size; fault = 1 })
said_why {hits} {text} {before} {out} why size rooms n put = let short = reason_short why in
    let front = put_front put (omega (arith, short, rooms.room_for_line)) in record {
      rooms = record { hit_room = rooms.hit_room; room_for_text = rooms.room_for_text; room_for_line = put_length put ∙ rooms.room_for_line };
      fits = omega (arith, short, front.0);
      line = front.1 ∙ line_why why n;
      fault = fault_why why n;
    }

-- ---- the rooms
pub line_in : {hits text out : List ℕ} → Rooms hits text out → line_room ≤ length out
line_in rooms = omega (arith, rooms.room_for_line)

-- what was lent of the output goes back before its last byte
back : (lent out : List ℕ) → length out ≡ line_room + 1 → length lent ≡ line_room → length (lent ++ drop line_room out) ≡ line_room + 1
back lent out h e = omega (arith, h, e, length-append lent (drop line_room out), length-drop line_room out)

-- ---- the slip's reply
-- the line that a reply has
abbrev pub lined : Reply Slip → Reply (List ℕ)
lined s = s >>= λ slip. given slip.line

module _ (request map zones : List ℕ) {n room size : ℕ} (en : n ≡ hit_words) (er : room ≡ text_room) (es : size ≡ line_room) where
  in_rooms : lined (slip_of request map [] zones n room size) ≡ slip_for request map zones
  unfolding slip_for
  in_rooms = λ i. lined (slip_of request map [] zones (en i) (er i) (es i))

by_refused : (n room size : ℕ) {reply : Reply Stamped} {hits text out : List ℕ} (why : Refusal) (s : Reply Slip) → replied reply hits text out ≡ replied_of n room size s → reply ≡ refused why
    → refused why ≡ lined s
unfolding replied_of
by_refused n room size why (given slip) e r = let said = sym r ∙ ap (λ (x : Replied). x.reply) e in let z : ◌≡◌ {A = ℕ} 0 1 = cc in absurd (omega arith)
by_refused n room size why (refused other) e r = let said = sym r ∙ ap (λ (x : Replied). x.reply) e in let same : why ≡ other = cc in ap refused same

pub slip_refused : (request map zones : List ℕ) {n room size : ℕ} {answer : Reply Stamped} {hits text out : List ℕ} {why : Refusal} → n ≡ hit_words → room ≡ text_room
    → size ≡ line_room → answer ≡ refused why → replied answer hits text out ≡ slipped request map [] zones n room size → refused why ≡ slip_for request map zones
unfolding slipped
slip_refused request map zones {n} {room} {size} {why = why} en er es is e = by_refused n room size why _ e is ∙ in_rooms request map zones en er es

pub answers_as : {reply reply' : Reply (List ℕ)} {hits text out : List ℕ} {answered : _} → reply ≡ reply' → Answers reply hits text out answered → Answers reply' hits text out answered
answers_as {hits = hits} {text = text} {out = out} {answered = answered} e a = subst (λ (r : Reply (List ℕ)). Answers r hits text out answered) e a

-- ---- a slip
-- its line stands in the lent output, and its length was answered
pub record Stood (s : Reply Slip) (size : ℕ) (stamped : Stamped) (out : List ℕ) : Type 0 where
  pub line : List ℕ
  pub is : given line ≡ lined s
  pub padded_out : out ≡ padded size line
  pub long : stamped.length ≡ length line

by_given : (n room size : ℕ) {reply : Reply Stamped} {hits text out : List ℕ} (stamped : Stamped) (s : Reply Slip) → replied reply hits text out ≡ replied_of n room size s → reply ≡ given stamped
    → ((slip : Slip) → given slip ≡ s → slip.stamped.length ≡ length slip.line) → Stood s size stamped out
unfolding replied_of
by_given n room size stamped (given slip) e r law =
    record {
      line = slip.line;
      is = refl;
      padded_out = ap (λ (x : Replied). x.out) e;
      long = ap (λ (s : Stamped). s.length) (given_one (sym r ∙ ap (λ (x : Replied). x.reply) e)) ∙ law slip refl;
    }
by_given n room size stamped (refused why) e r law = let said = sym r ∙ ap (λ (x : Replied). x.reply) e in let z : ◌≡◌ {A = ℕ} 0 1 = cc in absurd (omega arith)

pub stood : (request map zones : List ℕ) (n room size : ℕ) {answer : Reply Stamped} {hits text out : List ℕ} {stamped : Stamped} → answer ≡ given stamped
    → replied answer hits text out ≡ slipped request map [] zones n room size → Stood (slip_of request map [] zones n room size) size stamped out
unfolding slipped
stood request map zones n room size {stamped = stamped} is e = by_given n room size stamped _ e is (λ slip given. slip_length request map [] zones n room size given)

-- it is no longer than its room
pub stood_fits : {s : Reply Slip} {size : ℕ} {stamped : Stamped} {out : List ℕ} → Stood s size stamped out → length out ≡ size → stamped.length ≤ size
stood_fits {s} {size} {stamped} {out} st e = omega (arith, st.long, e, ap length st.padded_out, length-append st.line (zeros (size - length st.line)))

end_line : (line rest : List ℕ) (k : ℕ) → k ≡ length line → k < length (line ++ rest) → take (k + 1) (set (line ++ rest) k 10) ≡ line ++ (10 ∷ [])
end_line line rest k e h =
    ap (λ (n : ℕ). take n (set (line ++ rest) k 10)) (add-one k) ∙ take-suc-set (line ++ rest) k 10 h ∙ ap (λ (l : List ℕ). l ++ (10 ∷ [])) (take_at line rest k (sym e))

line_given : {reply : Reply (List ℕ)} (line : List ℕ) → given line ≡ reply → line ++ (10 ∷ []) ≡ line_for reply
unfolding line_for
line_given line e = ap line_for e

fault_given : {reply : Reply (List ℕ)} (line : List ℕ) → given line ≡ reply → 0 ≡ fault_for reply
unfolding fault_for
fault_given line e = ap fault_for e

-- and its end goes in behind it
pub stood_in : {s : Reply Slip} {size : ℕ} {stamped : Stamped} {out : List ℕ} → Stood s size stamped out → (before : List ℕ) → length before ≡ line_room + 1 → length out ≡ size → size ≡ line_room
    → stamped.length < length (out ++ drop line_room before)
stood_in {out = out} st before eb eo es = omega (arith, stood_fits st eo, es, back out before eb (eo ∙ es))

pub stamped_line : (request map zones before : List ℕ) {n room size : ℕ} {after hits text out : List ℕ} {stamped : Stamped} → n ≡ hit_words → room ≡ text_room
    → size ≡ line_room → length hits ≡ n → length text ≡ room → length before ≡ line_room + 1 → length out ≡ size → Stood (slip_of request map [] zones n room size) size stamped out
    → after ≡ set (out ++ drop line_room before) stamped.length 10 → Answers (slip_for request map zones) hits text after (record { size = stamped.length + 1; fault = 0 })
stamped_line request map zones before {n} {room} {size} {after} {hits} {text} {out} {stamped} en er es eh et eb eo st ea = let k = stamped.length in
    let tail = drop line_room before in let fits = stood_fits st eo in let whole = back out before eb (eo ∙ es) in
    let reply = st.is ∙ in_rooms request map zones en er es in let rest = zeros (size - length st.line) ++ tail in
    let apart : out ++ tail ≡ st.line ++ rest = ap (λ (l : List ℕ). l ++ tail) st.padded_out ∙ append_assoc st.line (zeros (size - length st.line)) tail in record {
      rooms =
          record {
            hit_room = eh ∙ en;
            room_for_text = et ∙ er;
            room_for_line = ap length ea ∙ length-set (out ++ tail) k 10 ∙ whole;
          };
      fits = omega (arith, fits, es);
      line =
          ap (take (k + 1)) (ea ∙ ap (λ (l : List ℕ). set l k 10) apart)
          ∙ end_line st.line rest k st.long (omega (arith, stood_in st before eb eo es, ap length apart))
          ∙ line_given st.line reply;
      fault = fault_given st.line reply;
    }
