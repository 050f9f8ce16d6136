-- Going down a tree of keys.
use Rattle.std.proofs.Common.{◌≡◌, ℕ, zero, suc, ◌+◌, ◌-◌, ◌*◌, ◌/◌, ◌^◌, ◌<◌, ◌≤◌, inl, inr, List, drop, get_or, replicate, refl, ap, sym, ◌∙◌, arith}
use Rattle.std.proofs.Math.Nat.{pow-succ'}
use Rattle.std.proofs.Math.Pow.{pow_mono}
use Rattle.std.proofs.lemmas.Nat.{pow_pos}
use Rattle.std.proofs.lemmas.Bool.{cases_lt}
use Rattle.std.proofs.lemmas.List.{get_or-drop, length-drop, length-replicate, get_or-replicate}
use Rattle.gs_plan.specs.Keys.{IsTree, IsLeast, IsFirstWithin, leaves}

pub pow_more : (i : ℕ) → 2 ^ (i + 1) ≡ 2 * 2 ^ i
pow_more i = let e : i + 1 ≡ suc i = omega arith in rw e (pow-succ' 2 i)

-- a way from the root, which no leaf within the limit lies to the left of
pub record IsWay (nodes : List ℕ) (level node limit : ℕ) : Type 0 where
  pub low : 2 ^ level ≤ node
  pub high : node < 2 * 2 ^ level
  pub within : get_or nodes node 0 ≤ limit
  pub before : (q : ℕ) → 2 ^ level ≤ q → q < node → limit < get_or nodes q 0

pub way_begins : (nodes : List ℕ) (limit : ℕ) → get_or nodes 1 0 ≤ limit → IsWay nodes 0 1 limit
way_begins nodes limit some = record { low = omega arith; high = omega arith; within = some; before = λ q l r. absurd (omega arith) }

above_both : (nodes : List ℕ) (levels node q limit : ℕ) → IsTree nodes levels → 0 < node → node < 2 ^ levels → q / 2 ≡ node → limit < get_or nodes node 0 → limit < get_or nodes q 0
above_both nodes levels node q limit tree some inside half above =
    let least = tree.least node some inside in
    elim (cases_lt (2 * node) q) [
      | inl odd ↦ let at : q ≡ 2 * node + 1 = omega arith in omega (arith, ap (λ i. get_or nodes i 0) at)
      | inr even ↦ let at : q ≡ 2 * node = omega arith in omega (arith, ap (λ i. get_or nodes i 0) at)
    ]

pub way_left : (nodes : List ℕ) (levels level node limit next : ℕ) → IsTree nodes levels → level < levels → IsWay nodes level node limit →
    next ≡ 2 * node → get_or nodes (2 * node) 0 ≤ limit → IsWay nodes (level + 1) next limit
way_left nodes levels level node limit next tree inside way is within =
    let twice = pow_more level in
    let room = pow_mono {i = level + 1} {j = levels} (omega arith) in
    let some = pow_pos level in
    record {
      low = omega (arith, twice, way.low);
      high = omega (arith, twice, way.high);
      within = omega (arith, ap (λ i. get_or nodes i 0) is);
      before = λ q l r. above_both nodes levels (q / 2) q limit tree (omega (arith, twice, some)) (omega (arith, twice, room, way.high)) refl (way.before (q / 2) (omega (arith, twice)) (omega arith));
    }

pub way_right : (nodes : List ℕ) (levels level node limit next : ℕ) → IsTree nodes levels → level < levels → IsWay nodes level node limit →
    next ≡ 2 * node + 1 → limit < get_or nodes (2 * node) 0 → IsWay nodes (level + 1) next limit
way_right nodes levels level node limit next tree inside way is above =
    let twice = pow_more level in
    let room = pow_mono {i = level + 1} {j = levels} (omega arith) in
    let some = pow_pos level in
    let least = tree.least node (omega (arith, some, way.low)) (omega (arith, twice, room, way.high)) in
    record {
      low = omega (arith, twice, way.low);
      high = omega (arith, twice, way.high);
      within = omega (arith, ap (λ i. get_or nodes i 0) is, least, way.within);
      before = λ q l r. elim (cases_lt (q / 2) node) [
        | inl lower ↦ above_both nodes levels (q / 2) q limit tree (omega (arith, twice, some)) (omega (arith, twice, room, way.high)) refl (way.before (q / 2) (omega (arith, twice)) lower)
        | inr same ↦ let at : q ≡ 2 * node = omega arith in omega (arith, ap (λ i. get_or nodes i 0) at)
      ];
    }

pub way_ends : (nodes : List ℕ) (levels level node limit place : ℕ) → IsTree nodes levels → level ≡ levels → IsWay nodes level node limit → node ≡ 2 ^ levels + place → IsFirstWithin (leaves nodes levels) limit place
way_ends nodes levels level node limit place tree all way is =
    let same : 2 ^ level ≡ 2 ^ levels = ap (λ i. 2 ^ i) all in
    let size = length-drop (2 ^ levels) nodes in
    record {
      inside = omega (arith, size, tree.whole, way.high, same);
      within = omega (arith, get_or-drop (2 ^ levels) nodes place 0, ap (λ i. get_or nodes i 0) is, way.within);
      before = λ k l. omega (arith, get_or-drop (2 ^ levels) nodes k 0, way.before (2 ^ levels + k) (omega (arith, same)) (omega arith));
    }

-- ---- the root

-- the root has the least key
root_least : (nodes : List ℕ) (levels fuel k : ℕ) → IsTree nodes levels → k ≤ fuel → 0 < k → k < 2 * 2 ^ levels → get_or nodes 1 0 ≤ get_or nodes k 0
root_least nodes levels zero k tree f some inside = absurd (omega arith)
root_least nodes levels (suc fuel) k tree f some inside =
    elim (cases_lt k 2) [
      | inl first ↦ let at : k ≡ 1 = omega arith in omega (arith, ap (λ i. get_or nodes i 0) at)
      | inr deep ↦
          let up = root_least nodes levels fuel (k / 2) tree (omega arith) (omega arith) (omega arith) in
          let node = tree.least (k / 2) (omega arith) (omega arith) in
          elim (cases_lt (2 * (k / 2)) k) [
            | inl odd ↦ let at : k ≡ 2 * (k / 2) + 1 = omega arith in omega (arith, up, node, ap (λ i. get_or nodes i 0) at)
            | inr even ↦ let at : k ≡ 2 * (k / 2) = omega arith in omega (arith, up, node, ap (λ i. get_or nodes i 0) at)
          ]
    ]

-- some leaf below a node has its key
leaf_below : (nodes : List ℕ) (levels fuel node : ℕ) → IsTree nodes levels → 2 * 2 ^ levels ≤ fuel + node → 0 < node → node < 2 * 2 ^ levels →
    (k : ℕ) × (k < 2 ^ levels) × (get_or nodes (2 ^ levels + k) 0 ≡ get_or nodes node 0)
leaf_below nodes levels zero node tree f some inside = absurd (omega arith)
leaf_below nodes levels (suc fuel) node tree f some inside =
    elim (cases_lt node (2 ^ levels)) [
      | inr leaf ↦
          let at : 2 ^ levels + (node - 2 ^ levels) ≡ node = omega arith in
          (node - 2 ^ levels, omega arith, ap (λ i. get_or nodes i 0) at)
      | inl inner ↦
          let least = tree.least node some inner in
          elim (cases_lt (get_or nodes (2 * node) 0) (get_or nodes (2 * node + 1) 0)) [
            | inl left ↦ let (k, l, is) = leaf_below nodes levels fuel (2 * node) tree (omega arith) (omega arith) (omega arith) in (k, l, omega (arith, is, least))
            | inr right ↦ let (k, l, is) = leaf_below nodes levels fuel (2 * node + 1) tree (omega arith) (omega arith) (omega arith) in (k, l, omega (arith, is, least))
          ]
    ]

pub root_is_least : (nodes : List ℕ) (levels key : ℕ) → IsTree nodes levels → key ≡ get_or nodes 1 0 → IsLeast (leaves nodes levels) key
root_is_least nodes levels key tree is =
    let size = length-drop (2 ^ levels) nodes in
    let some = pow_pos levels in
    let (k, l, at) = leaf_below nodes levels (2 * 2 ^ levels) 1 tree (omega arith) (omega arith) (omega (arith, some)) in
    record {
      least = λ i m. omega (arith, get_or-drop (2 ^ levels) nodes i 0, root_least nodes levels (2 ^ levels + i) (2 ^ levels + i) tree (omega arith) (omega (arith, some)) (omega (arith, size, tree.whole)));
      reached = (k, omega (arith, size, tree.whole), get_or-drop (2 ^ levels) nodes k 0 ∙ at ∙ sym is);
    }

-- ---- keys that are all alike

pub alike_tree : (levels count key : ℕ) → count ≡ 2 * 2 ^ levels → IsTree (replicate count key) levels
alike_tree levels count key is = record {
  whole = length-replicate count key ∙ is;
  least = λ node some inside.
      let a = get_or-replicate count node key 0 (omega arith) in
      let b = get_or-replicate count (2 * node) key 0 (omega arith) in
      let d = get_or-replicate count (2 * node + 1) key 0 (omega arith) in
      omega (arith, a, b, d);
}

drop_alike : (n m key : ℕ) → drop n (replicate (n + m) key) ≡ replicate m key
drop_alike zero m key = let e : 0 + m ≡ m = omega arith in ap (λ (k : ℕ). replicate k key) e
drop_alike (suc n) m key = let e : suc n + m ≡ suc (n + m) = omega arith in ap (λ (k : ℕ). drop (suc n) (replicate k key)) e ∙ drop_alike n m key

pub alike_leaves : (levels count key : ℕ) → count ≡ 2 * 2 ^ levels → leaves (replicate count key) levels ≡ replicate (2 ^ levels) key
alike_leaves levels count key is =
    let e : count ≡ 2 ^ levels + 2 ^ levels = omega arith in
    ap (λ (k : ℕ). drop (2 ^ levels) (replicate k key)) e ∙ drop_alike (2 ^ levels) (2 ^ levels) key
