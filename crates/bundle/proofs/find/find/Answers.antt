-- `bundle::find::find` meets its contract.
use Rattle.numbers.{proofs.Prelude.{ℕ, List, ◌+◌, ◌-◌, ◌/◌, ◌++◌, map, sym, ap, ◌∙◌, arith}, specs.Reply.{given, refused}}
use Rattle.numbers.proofs.Replies.{passed_on}
use Rattle.bundle.proofs.{Entries.{head_good, seek_inside, find_head, find_none, find_out, find_in, same_file}}
use Rattle.bundle.specs.{Bundle.{xored, seek_of}, Told.{told_sought}}
use Rattle.bundle.proofs.find.find.Goals as goal

pub returns-in_err-head : goal.returns-in_err-head
returns-in_err-head c =
    passed_on c.from_residual.result c.from_residual.ensures.1 ∙ find_head c.args.bundle.now (map (xored c.args.mask) (c.args.prefix.now ++ c.args.id.now)) (sym c.in_err-head.was ∙ c.read_head.ensures)

pub overflow_sub-count : goal.overflow_sub-count
overflow_sub-count c =
    omega (arith, head_good c.args.bundle.now (sym c.in_ok-head.was ∙ c.read_head.ensures))

pub seek-requires : goal.seek-requires
seek-requires c =
    omega (arith, head_good c.args.bundle.now (sym c.in_ok-head.was ∙ c.read_head.ensures))

pub returns-in_default : goal.returns-in_default
returns-in_default c =
    ap refused c.alone.ensures ∙ find_none c.args.bundle.now (map (xored c.args.mask) (c.args.prefix.now ++ c.args.id.now)) (sym c.in_ok-head.was
    ∙ c.read_head.ensures) (sym (ap told_sought c.in_default.is) ∙ (c.seek.ensures ∙ ap (λ (name : List ℕ). seek_of ((c.in_ok-head.head.start - c.in_ok-head.head.index) / 52) c.args.bundle.now name c.in_ok-head.head.index) c.new.ensures))

pub overflow_add-place : goal.overflow_add-place
overflow_add-place c =
    let good = head_good c.args.bundle.now (sym c.in_ok-head.was ∙ c.read_head.ensures) in
    omega (
      arith,
      good,
      seek_inside ((c.in_ok-head.head.start - c.in_ok-head.head.index) / 52) c.args.bundle.now (map (xored c.args.mask) (c.args.prefix.now ++
          c.args.id.now)) c.in_ok-head.head.index (sym (ap told_sought c.in-Some.is) ∙ (c.seek.ensures ∙ ap (λ (name : List ℕ). seek_of ((c.in_ok-head.head.start - c.in_ok-head.head.index) / 52) c.args.bundle.now name c.in_ok-head.head.index) c.new.ensures)),
    )

pub word_at-requires : goal.word_at-requires
word_at-requires c =
    let good = head_good c.args.bundle.now (sym c.in_ok-head.was ∙ c.read_head.ensures) in
    omega (
      arith,
      good,
      seek_inside ((c.in_ok-head.head.start - c.in_ok-head.head.index) / 52) c.args.bundle.now (map (xored c.args.mask) (c.args.prefix.now ++
          c.args.id.now)) c.in_ok-head.head.index (sym (ap told_sought c.in-Some.is) ∙ (c.seek.ensures ∙ ap (λ (name : List ℕ). seek_of ((c.in_ok-head.head.start - c.in_ok-head.head.index) / 52) c.args.bundle.now name c.in_ok-head.head.index) c.new.ensures)),
    )

pub overflow_add-start : goal.overflow_add-start
overflow_add-start c =
    omega (arith, head_good c.args.bundle.now (sym c.in_ok-head.was ∙ c.read_head.ensures), c.word_at.ensures.1)

pub overflow_add-place-2 : goal.overflow_add-place-2
overflow_add-place-2 c =
    let good = head_good c.args.bundle.now (sym c.in_ok-head.was ∙ c.read_head.ensures) in
    omega (
      arith,
      good,
      seek_inside ((c.in_ok-head.head.start - c.in_ok-head.head.index) / 52) c.args.bundle.now (map (xored c.args.mask) (c.args.prefix.now ++
          c.args.id.now)) c.in_ok-head.head.index (sym (ap told_sought c.in-Some.is) ∙ (c.seek.ensures ∙ ap (λ (name : List ℕ). seek_of ((c.in_ok-head.head.start - c.in_ok-head.head.index) / 52) c.args.bundle.now name c.in_ok-head.head.index) c.new.ensures)),
    )

pub word_at-length-requires : goal.word_at-length-requires
word_at-length-requires c =
    let good = head_good c.args.bundle.now (sym c.in_ok-head.was ∙ c.read_head.ensures) in
    omega (
      arith,
      good,
      seek_inside ((c.in_ok-head.head.start - c.in_ok-head.head.index) / 52) c.args.bundle.now (map (xored c.args.mask) (c.args.prefix.now ++
          c.args.id.now)) c.in_ok-head.head.index (sym (ap told_sought c.in-Some.is) ∙ (c.seek.ensures ∙ ap (λ (name : List ℕ). seek_of ((c.in_ok-head.head.start - c.in_ok-head.head.index) / 52) c.args.bundle.now name c.in_ok-head.head.index) c.new.ensures)),
    )

pub overflow_add-start-2 : goal.overflow_add-start-2
overflow_add-start-2 c =
    omega (arith, head_good c.args.bundle.now (sym c.in_ok-head.was ∙ c.read_head.ensures), c.word_at.ensures.1, c.word_at-length.ensures.1)

pub returns-then-head-start : goal.returns-then-head-start
returns-then-head-start c =
    ap refused c.at.ensures ∙ find_out c.args.bundle.now (map (xored c.args.mask) (c.args.prefix.now ++ c.args.id.now)) (sym c.in_ok-head.was
    ∙ c.read_head.ensures) (sym (ap told_sought c.in-Some.is) ∙ (c.seek.ensures ∙ ap (λ (name : List ℕ). seek_of ((c.in_ok-head.head.start - c.in_ok-head.head.index) / 52) c.args.bundle.now name c.in_ok-head.head.index) c.new.ensures)) (omega (arith, c.if-head-start.true, c.word_at.ensures.0, c.word_at-length.ensures.0))

pub returns : goal.returns
returns c =
    ap given (same_file (ap (λ (n : ℕ). c.in_ok-head.head.start + n) c.word_at.ensures.0) c.word_at-length.ensures.0)
    ∙ find_in c.args.bundle.now (map (xored c.args.mask) (c.args.prefix.now ++ c.args.id.now)) (sym c.in_ok-head.was
    ∙ c.read_head.ensures) (sym (ap told_sought c.in-Some.is) ∙ (c.seek.ensures ∙ ap (λ (name : List ℕ). seek_of ((c.in_ok-head.head.start - c.in_ok-head.head.index) / 52) c.args.bundle.now name c.in_ok-head.head.index) c.new.ensures)) (omega (arith, c.if-head-start.false, c.word_at.ensures.0, c.word_at-length.ensures.0))
