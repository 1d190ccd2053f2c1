-- `index::own::same_rest` meets its contract, by the test that led to each answer.
use Rattle.numbers.proofs.{Prelude.{◌+◌, ◌*◌, length, take, Bool, true, [], ◌∷◌, ◌≡◌, sym, ap, ◌∙◌, arith}, Replies.{passed_on}}
use Rattle.numbers.specs.Reply.{given, refused}
use Rattle.index.specs.{Index.{words_for, kept_of, tiles, records_at, lists_at}, inner.{Building.{lists_in}, Own.{is_at, lists_stand}}}
use Rattle.index.proofs.{Owning.{keeps_at, rest_short, rest_head, rest_kept, rest_lists, rest_large, rest_behind, rest_ends}}
use Rattle.index.proofs.own.same_rest.Goals as goal

pub returns-then-index-begin : goal.returns-then-index-begin
returns-then-index-begin c =
    ap refused c.alone.ensures ∙ rest_short c.args.file.now c.args.size c.args.precision c.args.index.now c.args.n c.if-index-begin.true

pub returns-then-not-same_head : goal.returns-then-not-same_head
returns-then-not-same_head c =
    ap refused c.alone-then-not-same_head.ensures ∙ rest_head c.args.file.now c.args.size c.args.precision c.args.index.now c.args.n c.if-index-begin.false (sym c.same_head.ensures ∙ c.if-not-same_head.true)

pub returns-then-not-keeps : goal.returns-then-not-keeps
returns-then-not-keeps c =
    let head_so : is_at c.args.index.now 0 (length c.args.file.now ∷ c.args.size ∷ c.args.n ∷ []) ≡ true = sym c.same_head.ensures ∙ c.if-not-same_head.false in
    let kept_so : (b : Bool) → c.keeps.result ≡ b → is_at c.args.index.now (records_at + 7 * c.args.n) (kept_of c.args.file.now c.args.size) ≡ b = λ b e. sym
    (keeps_at c.args.index.now (records_at + 7 * c.args.n) (take c.args.size c.args.file.now) (words_for c.args.size) 0 c.if-index-begin.false)
    ∙ (sym c.keeps.ensures ∙ e) in
    ap refused c.alone-then-not-keeps.ensures ∙ rest_kept c.args.file.now c.args.size c.args.precision c.args.index.now c.args.n c.if-index-begin.false head_so (kept_so _ c.if-not-keeps.true)

pub returns-in_err-used : goal.returns-in_err-used
returns-in_err-used c =
    let head_so : is_at c.args.index.now 0 (length c.args.file.now ∷ c.args.size ∷ c.args.n ∷ []) ≡ true = sym c.same_head.ensures ∙ c.if-not-same_head.false in
    let kept_so : (b : Bool) → c.keeps.result ≡ b → is_at c.args.index.now (records_at + 7 * c.args.n) (kept_of c.args.file.now c.args.size) ≡ b = λ b e. sym
    (keeps_at c.args.index.now (records_at + 7 * c.args.n) (take c.args.size c.args.file.now) (words_for c.args.size) 0 c.if-index-begin.false)
    ∙ (sym c.keeps.ensures ∙ e) in
    passed_on _ c.from_residual.ensures.1 ∙ rest_lists c.args.file.now c.args.size c.args.precision c.args.index.now c.args.n c.if-index-begin.false head_so (kept_so _ c.if-not-keeps.false) (sym c.in_err-used.was ∙ c.same_lists.ensures)

pub returns-then-used-gt4294967295 : goal.returns-then-used-gt4294967295
returns-then-used-gt4294967295 c =
    let head_so : is_at c.args.index.now 0 (length c.args.file.now ∷ c.args.size ∷ c.args.n ∷ []) ≡ true = sym c.same_head.ensures ∙ c.if-not-same_head.false in
    let kept_so : (b : Bool) → c.keeps.result ≡ b → is_at c.args.index.now (records_at + 7 * c.args.n) (kept_of c.args.file.now c.args.size) ≡ b = λ b e. sym
    (keeps_at c.args.index.now (records_at + 7 * c.args.n) (take c.args.size c.args.file.now) (words_for c.args.size) 0 c.if-index-begin.false)
    ∙ (sym c.keeps.ensures ∙ e) in
    let ends_so : given c.in_ok-used.used ≡ lists_stand c.args.index.now 3 (lists_at c.args.n c.args.size) (lists_in c.args.index.now c.args.precision c.args.n tiles 0)
    = sym c.in_ok-used.was ∙ c.same_lists.ensures in
    ap refused c.alone-then-used-gt4294967295.ensures ∙ rest_large c.args.file.now c.args.size c.args.precision c.args.index.now c.args.n c.if-index-begin.false head_so (kept_so _ c.if-not-keeps.false) ends_so (omega
    (arith, c.if-used-gt4294967295.true))

pub returns : goal.returns
returns c =
    let head_so : is_at c.args.index.now 0 (length c.args.file.now ∷ c.args.size ∷ c.args.n ∷ []) ≡ true = sym c.same_head.ensures ∙ c.if-not-same_head.false in
    let kept_so : (b : Bool) → c.keeps.result ≡ b → is_at c.args.index.now (records_at + 7 * c.args.n) (kept_of c.args.file.now c.args.size) ≡ b = λ b e. sym
    (keeps_at c.args.index.now (records_at + 7 * c.args.n) (take c.args.size c.args.file.now) (words_for c.args.size) 0 c.if-index-begin.false)
    ∙ (sym c.keeps.ensures ∙ e) in
    let ends_so : given c.in_ok-used.used ≡ lists_stand c.args.index.now 3 (lists_at c.args.n c.args.size) (lists_in c.args.index.now c.args.precision c.args.n tiles 0)
    = sym c.in_ok-used.was ∙ c.same_lists.ensures in
    rest_ends c.args.file.now c.args.size c.args.precision c.args.index.now c.args.n c.if-index-begin.false head_so (kept_so _ c.if-not-keeps.false) ends_so (omega
    (arith, c.if-used-gt4294967295.false)) (sym c.is_empty_from.ensures ∙ c.if-not-is_empty_from.false)

pub returns-then-not-is_empty_from : goal.returns-then-not-is_empty_from
returns-then-not-is_empty_from c =
    let head_so : is_at c.args.index.now 0 (length c.args.file.now ∷ c.args.size ∷ c.args.n ∷ []) ≡ true = sym c.same_head.ensures ∙ c.if-not-same_head.false in
    let kept_so : (b : Bool) → c.keeps.result ≡ b → is_at c.args.index.now (records_at + 7 * c.args.n) (kept_of c.args.file.now c.args.size) ≡ b = λ b e. sym
    (keeps_at c.args.index.now (records_at + 7 * c.args.n) (take c.args.size c.args.file.now) (words_for c.args.size) 0 c.if-index-begin.false)
    ∙ (sym c.keeps.ensures ∙ e) in
    let ends_so : given c.in_ok-used.used ≡ lists_stand c.args.index.now 3 (lists_at c.args.n c.args.size) (lists_in c.args.index.now c.args.precision c.args.n tiles 0)
    = sym c.in_ok-used.was ∙ c.same_lists.ensures in
    ap refused c.alone-then-not-is_empty_from.ensures ∙ rest_behind c.args.file.now c.args.size c.args.precision c.args.index.now c.args.n c.if-index-begin.false head_so (kept_so _ c.if-not-keeps.false) ends_so
    (omega (arith, c.if-used-gt4294967295.false)) (sym c.is_empty_from.ensures ∙ c.if-not-is_empty_from.true)
