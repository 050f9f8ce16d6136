-- The sequential run at two fuels.
use Rattle.std.proofs.Common.{◌≡◌, ◌≢◌, ◌<◌, ◌≤◌, ℕ, zero, suc, Bool, true, false, refl, sym, ap, ◌∙◌, subst, List, [], ◌∷◌, ◌++◌, Option, Some, None, ap₂, arith, ◌⊎◌, inl, inr, append-nil}
use Rattle.std.proofs.lemmas.Bool.{cases_lt}
use Rattle.gs_talk.specs.declared.question.Question.{Question}
use Rattle.gs_talk.specs.declared.question.Question.TheVariants.{FuelOut}
use Rattle.gs_talk.specs.declared.question.Answer.{Answer}
use Rattle.gs_talk.specs.Talk.{State, Dialogue, Done, Ask, Stop, Asks, dialogue, after}
use Rattle.gs_talk.specs.Seq.{Run, World, Task, Standing, seq, step, step_by, answered, reply, world_after, any_lost, last_by, last_of, task_at, EndsIn, IsTask}
use Rattle.gs_talk_laws.specs.Fuels.{IsPrefixOf, Cut, MoreFuel, with_fuel, exchange, exchanges, FuelPrefix, HasRunOut, Alike, SameStandings, TasksGoOn, SameTasks, IsClosed, SameClosed, SameEnd, OneEnd}
use Rattle.gs_talk_laws.specs.Numbers.{at_number}
use Rattle.gs_talk_laws.proofs.Stays.{tasks_stay, closed_stay}
use Rattle.gs_talk_laws.proofs.Staying.{next_seq, next_exchanges, seq_exchanged, stays}
use Rattle.gs_talk_laws.proofs.Statements.{dialogue_cut}
use Rattle.gs_talk_laws.proofs.Ending.{NeverDone, seq_never}

-- ---- the next question

cut_after : (d e : Dialogue) (answers : List Answer) (q : Question) (s : State) → Cut d e → q ≢ FuelOut → after d answers ≡ Asks q s → after e answers ≡ Asks q s
cut_after (Done n u) e answers q s h ne f = absurd (cc)
cut_after (Ask p u next) e [] q s h ne f = ap (λ d. after d []) h.1 ∙ f
cut_after (Ask p u next) e (a ∷ answers) q s h ne f = ap (λ d. after d (a ∷ answers)) h.1 ∙ cut_after (next a) (h.0 a) answers q s (h.2 a) ne f
cut_after (Stop p u) e answers q s h ne f = elim h [ inl out ↦ absurd (ne (cc (out, f))) | inr same ↦ ap (λ d. after d answers) same ∙ f ]

pub more_fuel : MoreFuel
more_fuel t fuel more answers q s le ne e = cut_after (dialogue t fuel) (dialogue t more) answers q s (dialogue_cut t fuel more le) ne e

-- ---- each step

-- one world, and the first asks what the second asks, but where it has no step left
pub record Along (at other : Standing) : Type 0 where
  pub world : at.world ≡ other.world
  pub rest : Cut at.rest other.rest

abbrev Out : Dialogue → Type 0
Out d = (s : State) × (d ≡ Stop FuelOut s)

answered_along : (r : Run) (f g : ℕ) (at other : Standing) (q : Question) (next more : Answer → Dialogue) → Along at other → ((a : Answer) → Cut (next a) (more a)) → (o : Option Answer) →
    Along (answered (with_fuel r f) at q next o) (answered (with_fuel r g) other q more o)
answered_along r f g at other q next more h k None = h
answered_along r f g at other q next more h k (Some a) = record { world = ap (λ w. world_after r.law r.texts.ops w q) h.world; rest = k a }

step_along : (r : Run) (f g : ℕ) (at other : Standing) (d e : Dialogue) → Along at other → Cut d e → Along (step_by (with_fuel r f) at d) (step_by (with_fuel r g) other e) ⊎ Out d
step_along r f g at other (Done n s) e h c = inl (subst (λ (x : Dialogue). Along at (step_by (with_fuel r g) other x)) (sym c.1) h)
step_along r f g at other (Stop q s) e h c = elim c [
  | inl out ↦ inr (s, ap (λ p. Stop p s) out)
  | inr same ↦ inl (subst (λ (x : Dialogue). Along at (step_by (with_fuel r g) other x)) (sym same) h)
]
step_along r f g at other (Ask q s next) e h c =
    let replied : reply r.texts.ops at.world q ≡ reply r.texts.ops other.world q = ap (λ w. reply r.texts.ops w q) h.world in
    let here : Along (answered (with_fuel r f) at q next (reply r.texts.ops at.world q)) (answered (with_fuel r g) other q c.0 (reply r.texts.ops at.world q)) =
    answered_along r f g at other q next c.0 h c.2 (reply r.texts.ops at.world q) in
    let there : Along (answered (with_fuel r f) at q next (reply r.texts.ops at.world q)) (answered (with_fuel r g) other q c.0 (reply r.texts.ops other.world q)) =
    subst (λ (o : Option Answer). Along (answered (with_fuel r f) at q next (reply r.texts.ops at.world q)) (answered (with_fuel r g) other q c.0 o)) replied here in
    inl (subst (λ (x : Dialogue). Along (step_by (with_fuel r f) at (Ask q s next)) (step_by (with_fuel r g) other x)) (sym c.1) there)

exchange_along : (r : Run) (f g : ℕ) (w : World) (d e : Dialogue) → Cut d e → (exchange (with_fuel r f) w d ≡ exchange (with_fuel r g) w e) ⊎ Out d
exchange_along r f g w (Done n s) e c = inl (ap (exchange (with_fuel r g) w) (sym c.1))
exchange_along r f g w (Ask q s next) e c = inl (ap (exchange (with_fuel r g) w) (sym c.1))
exchange_along r f g w (Stop q s) e c = elim c [ inl out ↦ inr (s, ap (λ p. Stop p s) out) | inr same ↦ inl (ap (exchange (with_fuel r g) w) (sym same)) ]

out_stays : (r : Run) (at : Standing) (d : Dialogue) → Out d → step_by r at d ≡ at
out_stays r at d h = rw h.1 refl

out_exchange : (r : Run) (w : World) (d : Dialogue) → Out d → exchange r w d ≡ []
out_exchange r w d h = rw h.1 refl

-- the smaller fuel stands as the greater stands after as many questions, or ran out where the greater stood earlier
pub record Reached (r : Run) (fuel more k : ℕ) : Type 0 where
  pub moment : ℕ
  pub within : moment ≤ k
  pub along : Along (seq (with_fuel r fuel) k) (seq (with_fuel r more) moment)
  pub exchanged : exchanges (with_fuel r fuel) k ≡ exchanges (with_fuel r more) moment
  pub there : (moment ≡ k) ⊎ Out (seq (with_fuel r fuel) k).rest

stays_out : (r : Run) (fuel more k : ℕ) → Reached r fuel more k → Out (seq (with_fuel r fuel) k).rest → Reached r fuel more (suc k)
stays_out r fuel more k h out =
    let small = with_fuel r fuel in
    let same : seq small (suc k) ≡ seq small k = next_seq small k ∙ out_stays small (seq small k) (seq small k).rest out in
    let none = out_exchange small (seq small k).world (seq small k).rest out in
    record {
      moment = h.moment;
      within = (let le = h.within in omega arith);
      along = subst (λ (at : Standing). Along at (seq (with_fuel r more) h.moment)) (sym same) h.along;
      exchanged = next_exchanges small k ∙ ap (λ xs. exchanges small k ++ xs) none ∙ append-nil (exchanges small k) ∙ h.exchanged;
      there = inr (subst (λ (at : Standing). Out at.rest) (sym same) out);
    }

goes_on : (r : Run) (fuel more k : ℕ) → Along (seq (with_fuel r fuel) k) (seq (with_fuel r more) k) → exchanges (with_fuel r fuel) k ≡ exchanges (with_fuel r more) k →
    Along (step (with_fuel r fuel) (seq (with_fuel r fuel) k)) (step (with_fuel r more) (seq (with_fuel r more) k)) →
    exchange (with_fuel r fuel) (seq (with_fuel r fuel) k).world (seq (with_fuel r fuel) k).rest ≡ exchange (with_fuel r more) (seq (with_fuel r more) k).world (seq (with_fuel r more) k).rest →
    Reached r fuel more (suc k)
goes_on r fuel more k h e next x =
    let small = with_fuel r fuel in
    let large = with_fuel r more in
    record {
      moment = suc k;
      within = omega arith;
      along = rw (next_seq small k, next_seq large k) next;
      exchanged = next_exchanges small k ∙ ap (λ xs. xs ++ exchange small (seq small k).world (seq small k).rest) e ∙ ap (λ xs. exchanges large k ++ xs) x ∙ sym (next_exchanges large k);
      there = inl refl;
    }

one_more : (r : Run) (fuel more k j : ℕ) → j ≡ k → Along (seq (with_fuel r fuel) k) (seq (with_fuel r more) j) → exchanges (with_fuel r fuel) k ≡ exchanges (with_fuel r more) j →
    Reached r fuel more (suc k) ⊎ Out (seq (with_fuel r fuel) k).rest
one_more r fuel more k j is h e =
    let small = with_fuel r fuel in
    let large = with_fuel r more in
    let along : Along (seq small k) (seq large k) = subst (λ (i : ℕ). Along (seq small k) (seq large i)) is h in
    let exchanged : exchanges small k ≡ exchanges large k = e ∙ ap (exchanges large) is in
    elim (step_along r fuel more (seq small k) (seq large k) (seq small k).rest (seq large k).rest along along.rest) [
      | inr out ↦ inr out
      | inl next ↦ elim (exchange_along r fuel more (seq small k).world (seq small k).rest (seq large k).rest along.rest) [
        | inr out ↦ inr out
        | inl x ↦ inl (goes_on r fuel more k along exchanged next (x ∙ ap (λ w. exchange large w (seq large k).rest) along.world))
      ]
    ]

first_reached : (r : Run) (fuel more : ℕ) → fuel ≤ more → Reached r fuel more zero
unfolding seq exchanges
first_reached r fuel more le = record {
  moment = zero;
  within = omega arith;
  along = record { world = refl; rest = dialogue_cut r.texts fuel more le };
  exchanged = refl;
  there = inl refl;
}

pub reached : (r : Run) (fuel more k : ℕ) → fuel ≤ more → Reached r fuel more k
reached r fuel more zero le = first_reached r fuel more le
reached r fuel more (suc k) le =
    let h = reached r fuel more k le in
    elim h.there [
      | inr out ↦ stays_out r fuel more k h out
      | inl is ↦ elim (one_more r fuel more k h.moment is h.along h.exchanged) [ inl next ↦ next | inr out ↦ stays_out r fuel more k h out ]
    ]

-- ---- questions and standings

pub fuel_prefix : FuelPrefix
fuel_prefix r fuel more k le =
    let h = reached r fuel more k le in
    subst (λ (xs : List (Question × Answer)). IsPrefixOf xs (exchanges (with_fuel r more) k)) (sym h.exchanged) (seq_exchanged (with_fuel r more) h.moment k h.within)

asks_same : (d e : Dialogue) → Cut d e → NeverDone d → (after d [] ≡ after e []) ⊎ Out d
asks_same (Done n s) e c never = absurd never
asks_same (Ask q s next) e c never = inl (ap (λ x. after x []) (sym c.1))
asks_same (Stop q s) e c never = elim c [ inl out ↦ inr (s, ap (λ p. Stop p s) out) | inr same ↦ inl (ap (λ x. after x []) (sym same)) ]

ran_out : (at : Standing) → Out at.rest → HasRunOut at
ran_out at out = record { state = out.0; out = out.1 }

alike : (at other : Standing) → NeverDone at.rest → Along at other → Alike at other ⊎ HasRunOut at
alike at other never h = elim (asks_same at.rest other.rest h.rest never) [
  | inl same ↦ inl (record { world = h.world; next = same })
  | inr out ↦ inr (ran_out at out)
]

pub same_standings : SameStandings
same_standings r fuel more k le =
    let small = with_fuel r fuel in
    let large = with_fuel r more in
    let h = reached r fuel more k le in
    elim h.there [
      | inr out ↦ inr (ran_out (seq small k) out)
      | inl is ↦ alike (seq small k) (seq large k) (seq_never small k) (subst (λ (i : ℕ). Along (seq small k) (seq large i)) is h.along)
    ]

-- ---- tasks and contents

-- a task of a run is one
pub one_task : (r : Run) (n : ℕ) (t u : Task) → IsTask r n t → IsTask r n u → t ≡ u
one_task r n t u a b = by_order (cases_lt a.moment b.moment)
  where
    by_order : (a.moment < b.moment) ⊎ (b.moment ≤ a.moment) → t ≡ u
    by_order (inl lt) = let e = tasks_stay r a.moment b.moment n t (omega arith) a.is in let f = b.is in cc
    by_order (inr le) = let e = tasks_stay r b.moment a.moment n u le b.is in let f = a.is in cc

pub one_closed : (r : Run) (n : ℕ) (b c : List ℕ) → IsClosed r n b → IsClosed r n c → b ≡ c
one_closed r n b c x y = by_order (cases_lt x.moment y.moment)
  where
    by_order : (x.moment < y.moment) ⊎ (y.moment ≤ x.moment) → b ≡ c
    by_order (inl lt) = let e = closed_stay r x.moment y.moment n b (omega arith) x.is in let f = y.is in cc
    by_order (inr le) = let e = closed_stay r y.moment x.moment n c le y.is in let f = x.is in cc

pub tasks_go_on : TasksGoOn
tasks_go_on r fuel more n t le h =
    let there = reached r fuel more h.moment le in
    record { moment = there.moment; is = ap (λ w. task_at w.tasks n) (sym there.along.world) ∙ h.is }

closed_go_on : (r : Run) (fuel more n : ℕ) (b : List ℕ) → fuel ≤ more → IsClosed (with_fuel r fuel) n b → IsClosed (with_fuel r more) n b
closed_go_on r fuel more n b le h =
    let there = reached r fuel more h.moment le in
    record { moment = there.moment; is = ap (λ w. at_number w.closed n) (sym there.along.world) ∙ h.is }

pub same_tasks : SameTasks
same_tasks r fuel more n t u a b = by_order (cases_lt more fuel)
  where
    by_order : (more < fuel) ⊎ (fuel ≤ more) → t ≡ u
    by_order (inr le) = one_task (with_fuel r more) n t u (tasks_go_on r fuel more n t le a) b
    by_order (inl lt) = one_task (with_fuel r fuel) n t u a (tasks_go_on r more fuel n u (omega arith) b)

pub same_closed : SameClosed
same_closed r fuel more n b c x y = by_order (cases_lt more fuel)
  where
    by_order : (more < fuel) ⊎ (fuel ≤ more) → b ≡ c
    by_order (inr le) = one_closed (with_fuel r more) n b c (closed_go_on r fuel more n b le x) y
    by_order (inl lt) = one_closed (with_fuel r fuel) n b c x (closed_go_on r more fuel n c (omega arith) y)

-- ---- ends

-- a last question stops
pub last_is : (lost : Bool) (d : Dialogue) (q : Question) → last_by lost d ≡ Some q → (s : State) × (d ≡ Stop q s)
last_is lost (Done n s) q e = absurd (cc)
last_is lost (Ask p s next) q e = absurd (cc)
last_is true (Stop p s) q e = absurd (cc)
last_is false (Stop p s) q e = let same : p ≡ q = cc in (s, ap (λ x. Stop x s) same)

abbrev standing : World → Dialogue → Standing
standing w d = record { world = w; rest = d }

stop_stays : (r : Run) (at : Standing) (q : Question) (s : State) (d : Dialogue) → d ≡ Stop q s → step_by r at d ≡ at
stop_stays r at q s d e = rw e refl

pub end_stays : (r : Run) (k : ℕ) (q : Question) → EndsIn r k q → step r (seq r k) ≡ seq r k
end_stays r k q h =
    let is = last_is (any_lost (seq r k).world) (seq r k).rest q h.last in
    stop_stays r (seq r k) q is.0 (seq r k).rest is.1

-- a run ends in one way
pub one_end : (r : Run) (k j : ℕ) (q p : Question) → EndsIn r k q → EndsIn r j p → seq r k ≡ seq r j
one_end r k j q p a b = by_order (cases_lt k j)
  where
    by_order : (k < j) ⊎ (j ≤ k) → seq r k ≡ seq r j
    by_order (inl lt) = sym (stays r k j (omega arith) (end_stays r k q a))
    by_order (inr le) = stays r j k le (end_stays r j p b)

same_standing : (at other : Standing) (q : Question) (s : State) → at.rest ≡ Stop q s → q ≢ FuelOut → Along at other → other ≡ at
same_standing at other q s e ne h =
    elim (subst (λ (d : Dialogue). Cut d other.rest) e h.rest) [
      | inl out ↦ absurd (ne out)
      | inr same ↦ ap₂ standing (sym h.world) (same ∙ sym e)
    ]

stops_once : (d : Dialogue) (q p : Question) (s u : State) → d ≡ Stop q s → d ≡ Stop p u → q ≡ p
stops_once d q p s u e f = cc

ended_alike : (r : Run) (fuel more k : ℕ) (q : Question) → fuel ≤ more → q ≢ FuelOut → EndsIn (with_fuel r fuel) k q → seq (with_fuel r more) k ≡ seq (with_fuel r fuel) k
ended_alike r fuel more k q le ne h =
    let small = with_fuel r fuel in
    let large = with_fuel r more in
    let there = reached r fuel more k le in
    let is = last_is (any_lost (seq small k).world) (seq small k).rest q h.last in
    elim there.there [
      | inr out ↦ absurd (ne (stops_once (seq small k).rest q FuelOut is.0 out.0 is.1 out.1))
      | inl same ↦ same_standing (seq small k) (seq large k) q is.0 is.1 ne (subst (λ (i : ℕ). Along (seq small k) (seq large i)) same there.along)
    ]

pub same_end : SameEnd
same_end r fuel more k q le ne h =
    let same = ended_alike r fuel more k q le ne h in
    (record { last = ap last_of same ∙ h.last }, same)

pub any_end : OneEnd
any_end r fuel more k j q p ne not a b = by_order (cases_lt more fuel)
  where
    by_order : (more < fuel) ⊎ (fuel ≤ more) → seq (with_fuel r fuel) k ≡ seq (with_fuel r more) j
    by_order (inr le) = let far = same_end r fuel more k q le ne a in sym far.1 ∙ one_end (with_fuel r more) k j q p far.0 b
    by_order (inl lt) = let far = same_end r more fuel j p (omega arith) not b in one_end (with_fuel r fuel) k j q p a far.0 ∙ far.1
