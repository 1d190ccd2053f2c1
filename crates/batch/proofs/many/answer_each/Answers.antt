-- `batch::many::answer_each` meets its contract. The loop's invariant is `Stamping`: the lists hold what the fixes so far came to.
use Rattle.numbers.{proofs.Prelude.{nan, length, ap, ◌∙◌, arith}, specs.Lists.{zeros}}
use Rattle.batch.proofs.{Stamping.{taken, came_back, begins, ends, stops, counted_few, words_on, goes, used_is}}
use Rattle.zones.proofs.Holding.{held_length, remains_length}
use Rattle.batch.proofs.many.answer_each.Goals as goal

pub loop-i-init : goal.loop-i-init
loop-i-init c =
    begins _ _ _ _ _ _ _ _ _ _ _ _ c.requires.1 c.requires.2 c.requires.3

pub returns-in-Err : goal.returns-in-Err
returns-in-Err c =
    stops _ _ _ _ _ _ _ _ _ c.loop-i.invariant (taken (length c.args.lats.now) (length c.args.lons.now) (length c.args.answers.now) c.requires.0).0
    c.loop-i-test.true nan nan c.answer_one.result c.answer_one.new.hits c.answer_one.new.text c.answer_one.ensures _ _ _ c.in-Err.is (c.zero_all.ensures.0
    ∙ ap zeros (c.hits-1.given.1 ∙ held_length c.loop-i.invariant.words_held)) (c.zero_all.ensures.1 ∙ ap zeros (c.text-1.given.1
    ∙ held_length c.loop-i.invariant.text_held)) (c.zero_all.ensures.2 ∙ ap zeros (held_length c.loop-i.invariant.answers_held))

pub put_answer-requires : goal.put_answer-requires
put_answer-requires c = (
  omega (
    arith,
    remains_length c.loop-i.invariant.answers_held,
    c.loop-i.invariant.answers_held.sized,
    c.loop-i-test.true,
    (taken (length c.args.lats.now)
        (length c.args.lons.now) (length c.args.answers.now) c.requires.0).1,
  ),
  omega (
    arith,
    counted_few _ _ _ _ _ _ _ _ _ c.loop-i.invariant (taken (length
        c.args.lats.now) (length c.args.lons.now) (length c.args.answers.now) c.requires.0).0 c.loop-i-test.true nan nan c.answer_one.result c.answer_one.new.hits
        c.answer_one.new.text c.answer_one.ensures c.in-Ok.is (λ i. omega (arith, (c.type_inv.words i).fits)) (omega (arith, c.well_formed)),
  ),
)

pub overflow_add-matches : goal.overflow_add-matches
overflow_add-matches c =
    omega (
      arith,
      (words_on _ _ _ _ _ _ _ _ _ c.loop-i.invariant (taken (length c.args.lats.now) (length c.args.lons.now) (length c.args.answers.now)
          c.requires.0).0 c.loop-i-test.true nan nan c.answer_one.result c.answer_one.new.hits c.answer_one.new.text c.answer_one.ensures c.in-Ok.is (came_back
          c.loop-i.invariant.words_held c.answer_one.new.hits c.hits-1.given.1)).fits,
      c.well_formed,
    )

pub overflow_add-used : goal.overflow_add-used
overflow_add-used c =
    omega (
      arith,
      (goes _ _ _ _ _ _ _ _ _ c.loop-i.invariant (taken (length c.args.lats.now) (length c.args.lons.now)
          (length c.args.answers.now) c.requires.0).0 c.loop-i-test.true nan nan c.answer_one.result c.answer_one.new.hits c.answer_one.new.text c.answer_one.ensures
          c.in-Ok.is c.put_answer.new.answers (came_back c.loop-i.invariant.words_held c.answer_one.new.hits c.hits-1.given.1) (came_back
          c.loop-i.invariant.text_held c.answer_one.new.text c.text-1.given.1) (omega (
            arith,
            c.loop-i-test.true,
            (taken (length c.args.lats.now) (length
                c.args.lons.now) (length c.args.answers.now) c.requires.0).1,
          )) c.put_answer.ensures).text_held.fits,
      c.well_formed,
    )

pub loop-i-preserved : goal.loop-i-preserved
loop-i-preserved c =
    used_is _ _ _ _ _ _ _ _ _ (omega arith) (goes _ _ _ _ _ _ _ _ _ c.loop-i.invariant (taken (length c.args.lats.now) (length c.args.lons.now) (length
    c.args.answers.now) c.requires.0).0 c.loop-i-test.true nan nan c.answer_one.result c.answer_one.new.hits c.answer_one.new.text c.answer_one.ensures
    c.in-Ok.is c.put_answer.new.answers (came_back c.loop-i.invariant.words_held c.answer_one.new.hits c.hits-1.given.1) (came_back
    c.loop-i.invariant.text_held c.answer_one.new.text c.text-1.given.1) (omega (
      arith,
      c.loop-i-test.true,
      (taken (length c.args.lats.now) (length
          c.args.lons.now) (length c.args.answers.now) c.requires.0).1,
    )) c.put_answer.ensures)

pub returns : goal.returns
returns c =
    ends _ _ _ _ _ _ _ _ _ c.loop-i.invariant c.loop-i-test.false (omega (arith, c.loop-i-test.false, c.loop-i.auto.i-end))
