-- `table::listed::search_records` meets its contract. The loop's invariant is `SoFar`, over the rows of the numbers that are left.
use Rattle.numbers.proofs.Prelude.{ℕ, ◌+◌, length, List, ◌≡◌, refl, sym, ◌∙◌, arith}
use Rattle.table.proofs.listed.{Given.{onward_from, all_done, no_record, turned}}
use Rattle.table.proofs.search.{SoFar.{Turned, starts, on, stops, refuses, full, met}, Turns.{met_kind}}
use Rattle.numbers.specs.Reply.{Reply}
use Rattle.verdict.specs.Verdict.{Judgement}
use Rattle.table.specs.{GivenRows.{row_with}, Search.{Found}, declared.{hits.Hit.{Hit}, rows.Row.{Row}, search.Turn.{Turn}}}
use Rattle.table.proofs.listed.search_records.Goals.{in-On, in-Met+else-room-count}
use Rattle.table.proofs.listed.search_records.Goals as goal

pub loop-number-init : goal.loop-number-init
loop-number-init g c =
    starts _ _ _ _ c.requires refl

pub returns-then-rows-k : goal.returns-then-rows-k
returns-then-rows-k g c =
    let rows : List ℕ → ℕ → Row = row_with g.J.Judging.border in
    let judging : ℕ → ℕ → Judgement = g.J.Judging.judged_by c.args.judging.now c.args.fix c.args.records.now in
    rw c.alone.ensures (no_record rows judging c.args.fix c.args.records.now c.args.numbers.now _ _ c.loop-number.invariant c.loop-number-test.true c.wide-k.ensures.0 _
    c.if-rows-k.true)

pub returns-then-room-count : goal.returns-then-room-count
returns-then-room-count g c =
    let rows : List ℕ → ℕ → Row = row_with g.J.Judging.border in
    let judging : ℕ → ℕ → Judgement = g.J.Judging.judged_by c.args.judging.now c.args.fix c.args.records.now in
    let later : ℕ → List Hit → Reply Found = onward_from rows judging c.args.fix c.args.records.now c.args.numbers.now (length c.args.hits.now) (c.loop-number.number-index + 1) in
    let turned_here : (t : Turn) → t ≡ c.on_record-turn.result → Turned c.loop-number.invariant later t = λ t e. turned rows judging c.args.fix c.args.records.now
    c.args.numbers.now _ _ c.loop-number.invariant c.loop-number-test.true c.wide-k.ensures.0 c.if-rows-k.false (e ∙ c.on_record-turn.ensures) in
    rw c.alone-then-room-count.ensures (full c.loop-number.invariant later _ _ (turned_here _ (sym c.in-Met.is)) _ (omega (arith, c.if-room-count.true, c.room-room.ensures)))

pub loop-number-preserved : goal.loop-number-preserved
loop-number-preserved g c =
    let rows : List ℕ → ℕ → Row = row_with g.J.Judging.border in
    let judging : ℕ → ℕ → Judgement = g.J.Judging.judged_by c.args.judging.now c.args.fix c.args.records.now in
    let later : ℕ → List Hit → Reply Found = onward_from rows judging c.args.fix c.args.records.now c.args.numbers.now (length c.args.hits.now) (c.loop-number.number-index + 1) in
    let turned_here : (t : Turn) → t ≡ c.on_record-turn.result → Turned c.loop-number.invariant later t = λ t e. turned rows judging c.args.fix c.args.records.now
    c.args.numbers.now _ _ c.loop-number.invariant c.loop-number-test.true c.wide-k.ensures.0 c.if-rows-k.false (e ∙ c.on_record-turn.ensures) in
    elim c.match-turn.branch [
      | in-On w ↦ rw (w.hits-is, w.count-is, w.least-is) (on c.loop-number.invariant later (turned_here _ (sym w.in-On.is)))
      | in-Met+else-room-count w ↦
          let e = sym w.in-Met.is in
          rw (w.hits-is, w.count-is, w.least-is, w.put_hit.ensures) (met c.loop-number.invariant later _ _ (turned_here _ e) (omega (arith, w.if-room-count.false, c.room-room.ensures))
          (met_kind judging c.args.fix _ _ (e ∙ c.on_record-turn.ensures)))
    ]

pub returns-in-Stopped : goal.returns-in-Stopped
returns-in-Stopped g c =
    let rows : List ℕ → ℕ → Row = row_with g.J.Judging.border in
    let judging : ℕ → ℕ → Judgement = g.J.Judging.judged_by c.args.judging.now c.args.fix c.args.records.now in
    let later : ℕ → List Hit → Reply Found = onward_from rows judging c.args.fix c.args.records.now c.args.numbers.now (length c.args.hits.now) (c.loop-number.number-index + 1) in
    let turned_here : (t : Turn) → t ≡ c.on_record-turn.result → Turned c.loop-number.invariant later t = λ t e. turned rows judging c.args.fix c.args.records.now
    c.args.numbers.now _ _ c.loop-number.invariant c.loop-number-test.true c.wide-k.ensures.0 c.if-rows-k.false (e ∙ c.on_record-turn.ensures) in
    rw c.end_with.ensures (stops c.loop-number.invariant later (turned_here _ (sym c.in-Stopped.is)))

pub returns-in-Refused : goal.returns-in-Refused
returns-in-Refused g c =
    let rows : List ℕ → ℕ → Row = row_with g.J.Judging.border in
    let judging : ℕ → ℕ → Judgement = g.J.Judging.judged_by c.args.judging.now c.args.fix c.args.records.now in
    let later : ℕ → List Hit → Reply Found = onward_from rows judging c.args.fix c.args.records.now c.args.numbers.now (length c.args.hits.now) (c.loop-number.number-index + 1) in
    let turned_here : (t : Turn) → t ≡ c.on_record-turn.result → Turned c.loop-number.invariant later t = λ t e. turned rows judging c.args.fix c.args.records.now
    c.args.numbers.now _ _ c.loop-number.invariant c.loop-number-test.true c.wide-k.ensures.0 c.if-rows-k.false (e ∙ c.on_record-turn.ensures) in
    rw c.plain.ensures (refuses c.loop-number.invariant later _ (turned_here _ (sym c.in-Refused.is)))

pub returns : goal.returns
returns g c =
    let rows : List ℕ → ℕ → Row = row_with g.J.Judging.border in
    let judging : ℕ → ℕ → Judgement = g.J.Judging.judged_by c.args.judging.now c.args.fix c.args.records.now in
    rw c.end_with-2.ensures (all_done rows judging c.args.fix c.args.records.now c.args.numbers.now _ _ c.loop-number.invariant c.loop-number-test.false)
