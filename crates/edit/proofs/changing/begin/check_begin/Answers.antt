-- `edit::changing::begin::check_begin` meets its contract.
use Rattle.numbers.{proofs.Prelude.{length-take-le, sym, ap}, specs.Reply.{refused}}
use Rattle.edit.proofs.changing.{Firsts.{all_good, few_sizes, first_small, first_whole, form_bad, many_names, no_bytes, no_lengths, no_texts, texts_bad}, Sums.{sum_over_told, sum_within_told}}
use Rattle.edit.proofs.changing.begin.check_begin.Goals as goal

pub returns-then-asked-gt255 : goal.returns-then-asked-gt255
returns-then-asked-gt255 c =
    many_names _ _ _ _ _ _ _ _ _ _ c.if-asked-gt255.true _ (ap refused c.alone.ensures)

pub returns-then-sizes-count : goal.returns-then-sizes-count
returns-then-sizes-count c =
    few_sizes _ _ _ _ _ _ _ _ _ _ c.if-sizes-count.true _ (ap refused c.alone-then-sizes-count.ensures)

pub slice_bounds-are_texts-end : goal.slice_bounds-are_texts-end
slice_bounds-are_texts-end c =
    sym (length-take-le _ _ c.if-sizes-count.false)

pub returns-then-not-are_texts : goal.returns-then-not-are_texts
returns-then-not-are_texts c =
    texts_bad _ _ _ _ _ _ _ _ _ _ c.if-asked-gt255.false c.if-sizes-count.false _ c.are_texts.ensures c.if-not-are_texts.true _ (ap refused c.alone-then-not-are_texts.ensures)

pub returns-then-not-is_known : goal.returns-then-not-is_known
returns-then-not-is_known c =
    form_bad _ _ _ _ _ _ _ _ _ _ c.if-asked-gt255.false c.if-sizes-count.false _ c.are_texts.ensures c.if-not-are_texts.false _ c.is_known.ensures
    c.if-not-is_known.true _ (ap refused c.alone-then-not-is_known.ensures)

pub returns-then-lengths-count : goal.returns-then-lengths-count
returns-then-lengths-count c =
    no_lengths _ _ _ _ _ _ _ _ _ _ c.if-asked-gt255.false c.if-sizes-count.false _ c.are_texts.ensures c.if-not-are_texts.false _ c.is_known.ensures
    c.if-not-is_known.false c.if-lengths-count.true _ (ap refused c.alone-then-lengths-count.ensures)

pub slice_bounds-sum_within-end : goal.slice_bounds-sum_within-end
slice_bounds-sum_within-end c =
    sym (length-take-le _ _ c.if-sizes-count.false)

pub returns-in_default : goal.returns-in_default
returns-in_default c =
    no_texts _ _ _ _ _ _ _ _ _ _ c.if-asked-gt255.false c.if-sizes-count.false _ c.are_texts.ensures c.if-not-are_texts.false _ c.is_known.ensures
    c.if-not-is_known.false c.if-lengths-count.false (sum_over_told _ _ _ c.sum_within.ensures c.in_default.is) _ (ap refused c.alone-in_default.ensures)

pub returns-then-bytes-lt1 : goal.returns-then-bytes-lt1
returns-then-bytes-lt1 c =
    no_bytes _ _ _ _ _ _ _ _ _ _ c.if-asked-gt255.false c.if-sizes-count.false _ c.are_texts.ensures c.if-not-are_texts.false _ c.is_known.ensures
    c.if-not-is_known.false c.if-lengths-count.false (sum_within_told _ _ _ c.sum_within.ensures _ c.in-Some.is).1 c.if-bytes-lt1.true _
    (ap refused c.alone-then-bytes-lt1.ensures)

pub slice_bounds-head_size-end : goal.slice_bounds-head_size-end
slice_bounds-head_size-end c =
    sym (length-take-le _ _ c.if-sizes-count.false)

pub head_size-head-requires : goal.head_size-head-requires
head_size-head-requires c = (
  first_whole 0 0 0 _ _ _ 0 0 0 0 c.if-asked-gt255.false c.if-sizes-count.false _ c.are_texts.ensures c.if-not-are_texts.false,
  first_small 0 0 0 _ _ _ 0 0 0 0
      c.if-asked-gt255.false c.if-sizes-count.false _ c.are_texts.ensures c.if-not-are_texts.false,
)

pub returns : goal.returns
returns c =
    all_good _ _ _ _ _ _ _ _ _ _ c.if-asked-gt255.false c.if-sizes-count.false _ c.are_texts.ensures c.if-not-are_texts.false _ c.is_known.ensures
    c.if-not-is_known.false c.if-lengths-count.false (sum_within_told _ _ _ c.sum_within.ensures _ c.in-Some.is).1 c.if-bytes-lt1.false _ _
    c.head_size-head.ensures (sum_within_told _ _ _ c.sum_within.ensures _ c.in-Some.is).0
