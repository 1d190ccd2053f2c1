-- `atlas::build::build_atlas` meets its contract, by how far it came.
use Rattle.numbers.{proofs.{Prelude.{ℕ, rules, length, sym, ap, ◌∙◌, arith}, Replies.{passed_on}}, specs.{Lists.{zeros}, Reply.{Reply}}}
use Rattle.index.specs.Index.{indexed}
use Rattle.header.{proofs.Buffers.{all_zero}}
use Rattle.atlas.proofs.{Behind.{not_made, unopened, refused_told, index_told, long_enough, too_long, too_large, has_made}}
use Rattle.atlas.proofs.build.build_atlas.Goals as goal

pub returns-in-Err : goal.returns-in-Err
returns-in-Err c =
    not_made c.args.file.now (length c.args.words.now) (unopened c.args.file.now (length c.args.words.now) (sym c.in-Err.is
    ∙ c.head_of.ensures)) c.zero_words.ensures

pub returns-in_err-used : goal.returns-in_err-used
returns-in_err-used c =
    ap (λ (r : Reply ℕ). indexed r c.build_index.new.index) (passed_on _ c.from_residual.ensures.1) ∙ refused_told c.args.file.now (length c.args.words.now) (sym c.in-Ok.is ∙ c.head_of.ensures) c.build_index.ensures c.in_err-used.was

pub put_behind-all-requires : goal.put_behind-all-requires
put_behind-all-requires c =
    let opened = sym c.in-Ok.is ∙ c.head_of.ensures in
    let m = index_told c.args.file.now (length c.args.words.now) opened c.build_index.ensures c.in_ok-used.was in
    long_enough c.args.file.now (length c.args.words.now) opened m

pub returns-then-words-all : goal.returns-then-words-all
returns-then-words-all c =
    let opened = sym c.in-Ok.is ∙ c.head_of.ensures in
    let m = index_told c.args.file.now (length c.args.words.now) opened c.build_index.ensures c.in_ok-used.was in
    rw c.alone.ensures (too_long c.args.file.now (length c.args.words.now) opened m c.put_behind-all.ensures (omega (
      arith,
      c.if-words-all.true,
      c.words-3-1.given,
      c.words-2-1.given,
    )) (all_zero _ (length c.put_behind-all.new.words) c.zero_words-then-words-all.ensures ∙ ap zeros ((search rules))))

pub returns-then-all-gt4294967295 : goal.returns-then-all-gt4294967295
returns-then-all-gt4294967295 c =
    let opened = sym c.in-Ok.is ∙ c.head_of.ensures in
    let m = index_told c.args.file.now (length c.args.words.now) opened c.build_index.ensures c.in_ok-used.was in
    rw c.alone-then-all-gt4294967295.ensures (too_large c.args.file.now (length c.args.words.now) opened m c.put_behind-all.ensures (omega (
      arith,
      c.if-all-gt4294967295.true,
    )) (all_zero _ (length c.put_behind-all.new.words) c.zero_words-then-all-gt4294967295.ensures ∙ ap zeros ((search rules))))

pub returns : goal.returns
returns c =
    let opened = sym c.in-Ok.is ∙ c.head_of.ensures in
    let m = index_told c.args.file.now (length c.args.words.now) opened c.build_index.ensures c.in_ok-used.was in
    has_made c.args.file.now (length c.args.words.now) opened m c.put_behind-all.ensures (omega (arith, c.if-words-all.false, c.words-3-1.given, c.words-2-1.given))
    (omega (arith, c.if-all-gt4294967295.false))
