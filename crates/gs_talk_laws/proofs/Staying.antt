-- The tasks, the closed contents and the exchanges of a run stay.
use Rattle.std.proofs.Common.{◌≡◌, ◌≤◌, ◌+◌, ◌-◌, ℕ, zero, suc, refl, ap, ◌∙◌, subst, List, [], ◌∷◌, ◌++◌, Option, Some, None, arith}
use Rattle.gs_talk.specs.declared.question.CallArg.{CallArg}
use Rattle.gs_talk.specs.declared.question.Question.{Question}
use Rattle.gs_talk.specs.declared.question.Question.TheVariants.{Call, Use, OpenFile, CloseFile, Barrier, End, Fault, FuelOut}
use Rattle.gs_talk.specs.declared.question.Answer.{Answer}
use Rattle.gs_idl.specs.Interface.{Signature, params_at}
use Rattle.gs_types.specs.Job.{Meaning}
use Rattle.gs_talk.specs.Talk.{Dialogue, Done, Ask, Stop}
use Rattle.gs_talk.specs.Seq.{Run, World, Standing, seq, step, step_by, answered, reply, world_after, after_call, first_refused, task_of}
use Rattle.gs_talk_laws.specs.Fuels.{IsPrefixOf, exchange, exchanges}
use Rattle.gs_talk_laws.proofs.Lists.{prefix_same, prefix_then}

-- the second world has the tasks and the closed contents of the first, and perhaps more
pub record Grown (w v : World) : Type 0 where
  pub tasks : IsPrefixOf w.tasks v.tasks
  pub closed : IsPrefixOf w.closed v.closed

pub grown_same : (w : World) → Grown w w
grown_same w = record { tasks = prefix_same w.tasks; closed = prefix_same w.closed }

pub grown_then : (u w v : World) → Grown u w → Grown w v → Grown u v
grown_then u w v h k = record { tasks = prefix_then u.tasks w.tasks v.tasks h.tasks k.tasks; closed = prefix_then u.closed w.closed v.closed h.closed k.closed }

call_grown : (law : Meaning) (ops : List Signature) (op : ℕ) (args : List CallArg) (o : Option Answer) (w : World) → Grown w (after_call law ops op args o w)
call_grown law ops op args None w = record { tasks = (task_of law ops w.files op args ∷ [], refl); closed = prefix_same w.closed }
call_grown law ops op args (Some a) w = grown_same w

world_grown : (law : Meaning) (ops : List Signature) (w : World) (q : Question) → Grown w (world_after law ops w q)
world_grown law ops w (Call op line args) = call_grown law ops op args (first_refused w.files (params_at ops op) args) w
world_grown law ops w (CloseFile name bytes) = record { tasks = prefix_same w.tasks; closed = (bytes ∷ [], refl) }
world_grown law ops w (Use n place) = grown_same w
world_grown law ops w (OpenFile name mode line) = grown_same w
world_grown law ops w Barrier = grown_same w
world_grown law ops w End = grown_same w
world_grown law ops w (Fault line kind) = grown_same w
world_grown law ops w FuelOut = grown_same w

step_grown : (r : Run) (at : Standing) (d : Dialogue) → Grown at.world (step_by r at d).world
step_grown r at (Done n s) = grown_same at.world
step_grown r at (Stop q s) = grown_same at.world
step_grown r at (Ask q s next) = of_reply (reply r.texts.ops at.world q)
  where
    of_reply : (o : Option Answer) → Grown at.world (answered r at q next o).world
    of_reply None = grown_same at.world
    of_reply (Some a) = world_grown r.law r.texts.ops at.world q

pub next_seq : (r : Run) (k : ℕ) → seq r (suc k) ≡ step r (seq r k)
unfolding seq
next_seq r k = refl

pub next_exchanges : (r : Run) (k : ℕ) → exchanges r (suc k) ≡ exchanges r k ++ exchange r (seq r k).world (seq r k).rest
unfolding exchanges
next_exchanges r k = refl

grown_by : (r : Run) (k j : ℕ) → Grown (seq r k).world (seq r (j + k)).world
grown_by r k zero = let e : zero + k ≡ k = omega arith in rw e (grown_same (seq r k).world)
grown_by r k (suc j) =
    let e : suc j + k ≡ suc (j + k) = omega arith in
    rw (e, next_seq r (j + k)) (grown_then (seq r k).world (seq r (j + k)).world (step r (seq r (j + k))).world (grown_by r k j) (step_grown r (seq r (j + k)) (seq r (j + k)).rest))

pub seq_grown : (r : Run) (k more : ℕ) → k ≤ more → Grown (seq r k).world (seq r more).world
seq_grown r k more le =
    let e : (more - k) + k ≡ more = omega arith in
    subst (λ (m : ℕ). Grown (seq r k).world (seq r m).world) e (grown_by r k (more - k))

exchanged_by : (r : Run) (k j : ℕ) → IsPrefixOf (exchanges r k) (exchanges r (j + k))
exchanged_by r k zero = let e : zero + k ≡ k = omega arith in rw e (prefix_same (exchanges r k))
exchanged_by r k (suc j) =
    let e : suc j + k ≡ suc (j + k) = omega arith in
    rw (e, next_exchanges r (j + k)) (prefix_then (exchanges r k) (exchanges r (j + k)) (exchanges r (j + k) ++ exchange r (seq r (j + k)).world (seq r (j + k)).rest) (exchanged_by r k j) (_, refl))

pub seq_exchanged : (r : Run) (k more : ℕ) → k ≤ more → IsPrefixOf (exchanges r k) (exchanges r more)
seq_exchanged r k more le =
    let e : (more - k) + k ≡ more = omega arith in
    subst (λ (m : ℕ). IsPrefixOf (exchanges r k) (exchanges r m)) e (exchanged_by r k (more - k))

-- a run that stays at some moment stays from then on
stays_by : (r : Run) (k j : ℕ) → step r (seq r k) ≡ seq r k → seq r (j + k) ≡ seq r k
stays_by r k zero h = let e : zero + k ≡ k = omega arith in ap (seq r) e
stays_by r k (suc j) h =
    let e : suc j + k ≡ suc (j + k) = omega arith in
    ap (seq r) e ∙ next_seq r (j + k) ∙ ap (step r) (stays_by r k j h) ∙ h

pub stays : (r : Run) (k more : ℕ) → k ≤ more → step r (seq r k) ≡ seq r k → seq r more ≡ seq r k
stays r k more le h =
    let e : (more - k) + k ≡ more = omega arith in
    subst (λ (m : ℕ). seq r m ≡ seq r k) e (stays_by r k (more - k) h)
