-- The totals of a builder are a fresh sum after every sequence of the definition's calls. Assumes nothing.
use Rattle.numbers.{proofs.Prelude.{ℕ, ◌-◌, min, eqb, ltb, leb, length, take, ◌&&◌, List, [], ◌∷◌, ◌≡◌, refl, subst}, specs.Reply.{Reply, given, refused, plain, demand, ◌>>◌}}
use Rattle.writer.specs.Writer.{checks}
use Rattle.builder.specs.{Borders.{with_border}, File.{are_texts, head_of, is_text, known, readable, up_to}, Yards.{Text, Plan}}
use Rattle.draft.specs.Held.Builder.{Builder, Offered, holding, yard_of, joined, changed_at, with_value, summed, fitting, begin, add, drop_last, replace, clear}
use Rattle.draft.specs.Held.{Calls.{Call, add_yard, drop_yard, replace_value, clear_all, called, after, ran}, Space.{Space}, Totals.{data_of, file_size, totals_of}}

abbrev Fresh : Builder → Type 0
Fresh b = b.totals ≡ totals_of b.plan

-- what a call gives is fresh
unfoldable Gives : Reply Builder → Type 0
Gives (given b) = Fresh b
Gives (refused why) = Unit {0}

past : {A : Type 0} (r : Reply A) (next : Reply Builder) → Gives next → Gives (r >> next)
unfolding Gives
past (given a) next h = h
past (refused why) next h = tt

summed_fresh : (plan : Plan) (room : ℕ) → Gives (given (summed plan room))
unfolding Gives summed
summed_fresh plan room = refl

fitting_fresh : (space : Space) (plan : Plan) (room : ℕ) → Gives (fitting space (summed plan room))
unfolding fitting
fitting_fresh space plan room =
    past (demand (space.lists && leb (file_size (length (head_of (summed plan room).plan)) (summed plan room).totals) (up_to (summed plan room).room)) (plain 28)) (given (summed plan room))
    (summed_fresh plan room)

begin_fresh : (plan : Plan) (room : ℕ) (space : Space) → Gives (begin plan room space)
unfolding begin
begin_fresh plan room space = let last : Reply Builder = given (summed (holding plan []) room) in
    let lists : Reply (Unit {0}) = demand space.lists (plain 28) in let form : Reply (Unit {0}) = demand (known plan) (plain 27) in
    let texts : Reply (Unit {0}) = demand (readable (holding plan [])) (plain 26) in
    past (demand (leb (length plan.names) 255 && plan.numbered) (plain 25)) (texts >> (form >> (lists >> last)))
    (past texts (form >> (lists >> last)) (past form (lists >> last) (past lists last (summed_fresh (holding plan []) room))))

add_fresh : (b : Builder) (o : Offered) (space : Space) → Gives (add b o space)
unfolding add
add_fresh b o space = let last : Reply Builder = fitting space (summed (joined b.plan o) b.room) in
    let border : Reply (List ℕ) = with_border b.plan.version (up_to (min b.room space.bytes)) (data_of b.plan).bytes (yard_of o) in
    let texts : Reply (Unit {0}) = demand (are_texts o.lengths o.texts) (plain 26) in
    let counts : Reply (Unit {0}) = demand (ltb (length b.plan.yards) 4096 && eqb (length b.plan.names) (length o.lengths)) (plain 25) in
    past (checks 0 o.lats o.lons []) (counts >> (texts >> (border >> last)))
    (past counts (texts >> (border >> last)) (past texts (border >> last) (past border last (fitting_fresh space (joined b.plan o) b.room))))

drop_fresh : (b : Builder) (space : Space) → Gives (drop_last b space)
unfolding drop_last
drop_fresh b space = let left : Plan = holding b.plan (take (length b.plan.yards - 1) b.plan.yards) in
    let lists : Reply (Unit {0}) = demand space.lists (plain 28) in
    past (demand (ltb 0 (length b.plan.yards)) (plain 29)) (lists >> given (summed left b.room)) (past lists (given (summed left b.room)) (summed_fresh left b.room))

replace_fresh : (b : Builder) (yard field : ℕ) (text : Text) (space : Space) → Gives (replace b yard field text space)
unfolding replace
replace_fresh b yard field text space = let changed : Plan = holding b.plan (changed_at yard (with_value field text) b.plan.yards) in
    let last : Reply Builder = fitting space (summed changed b.room) in
    past (demand (ltb yard (length b.plan.yards) && ltb field (length b.plan.names)) (plain 30)) (demand (is_text text) (plain 26) >> last)
    (past (demand (is_text text) (plain 26)) last (fitting_fresh space changed b.room))

called_fresh : (b : Builder) (call : Call) → Gives (called b call)
unfolding called clear
called_fresh b (add_yard o space) = add_fresh b o space
called_fresh b (drop_yard space) = drop_fresh b space
called_fresh b (replace_value yard field text space) = replace_fresh b yard field text space
called_fresh b clear_all = summed_fresh (holding b.plan []) b.room

after_fresh : (b : Builder) (reply : Reply Builder) → Fresh b → Gives reply → Fresh (after b reply)
unfolding Gives after
after_fresh b (given next) h g = g
after_fresh b (refused why) h g = h

ran_fresh : (b : Builder) (calls : List Call) → Fresh b → Fresh (ran b calls)
unfolding ran
ran_fresh b [] h = h
ran_fresh b (call ∷ calls) h = ran_fresh (after b (called b call)) calls (after_fresh b (called b call) h (called_fresh b call))

-- what the definition's calls give has fresh totals; of the exported calls office/proofs/Made says so
pub ran_from_fresh : (plan : Plan) (room : ℕ) (space : Space) (b : Builder) → begin plan room space ≡ given b → (calls : List Call) → (ran b calls).totals ≡ totals_of (ran b calls).plan
unfolding Gives
ran_from_fresh plan room space b e calls = ran_fresh b calls (subst Gives e (begin_fresh plan room space))
