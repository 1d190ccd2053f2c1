-- `edit::changing::begin::begin` meets its contract.
use Rattle.numbers.proofs.{Prelude.{length-take-le, sym}, Replies.{passed_on}}
use Rattle.edit.proofs.changing.{Beginning.{begin_done, begin_refused, front_small, lengths_fit, names_fit, strings_fit}}
use Rattle.edit.proofs.changing.begin.begin.Goals as goal

pub returns-in_err-held : goal.returns-in_err-held
returns-in_err-held c =
    rw (passed_on c.from_residual.result c.from_residual.ensures.1) (begin_refused _ _ _ _ _ _ _ _ _ _ _ _ _ _ _ _ _ c.cut_lists.ensures _ c.check_begin.ensures _ c.in_err-held.was)

pub slice_bounds-copy_words-end : goal.slice_bounds-copy_words-end
slice_bounds-copy_words-end c =
    sym (length-take-le _ _ (names_fit _ _ _ _ _ _ _ _ _ _ _ _ _ _ _ _ _ c.cut_lists.ensures _ c.check_begin.ensures _ c.in_ok-held.was))

pub copy_words-requires : goal.copy_words-requires
copy_words-requires c =
    lengths_fit _ _ _ _ _ _ _ _ _ _ _ _ _ _ _ _ _ c.cut_lists.ensures _ c.check_begin.ensures _ c.in_ok-held.was

pub slice_bounds-put_bytes-end : goal.slice_bounds-put_bytes-end
slice_bounds-put_bytes-end c =
    sym (length-take-le _ _ (strings_fit _ _ _ _ _ _ _ _ _ _ _ _ _ _ _ _ _ c.cut_lists.ensures _ c.check_begin.ensures _ c.in_ok-held.was))

pub put_bytes-requires : goal.put_bytes-requires
put_bytes-requires c =
    front_small _ _ _ _ _ _ _ _ _ _ _ _ _ _ _ _ _ c.cut_lists.ensures _ c.check_begin.ensures _ c.in_ok-held.was

pub returns : goal.returns
returns c =
    begin_done _ _ _ _ _ _ _ _ _ _ _ _ _ _ _ _ _ c.cut_lists.ensures _ c.check_begin.ensures _ c.in_ok-held.was _ _ _ c.copy_words.ensures c.put_bytes.ensures
