-- The order of nodes by name: it is strict, and that of the first n names is that of all names.
use Rattle.std.proofs.Common.{ℕ, ◌≤◌, ◌<◌, arith, ◌≡◌, refl, sym, ap, ap₂, ◌∙◌, true, ◌&&◌, ◌||◌, ◌⊎◌, take, drop, get_or-take, leb, le-leb}
use Rattle.std.proofs.Math.Decide.{dec_lt}
use Rattle.std.specs.declared.cmp.Ordering.{Ordering}
use Rattle.std.specs.declared.cmp.Ordering.TheVariants.{Less, Equal, Greater}
use Rattle.name_role.specs.Roles.{given_order}
use Rattle.name_role.proofs.Roles.{given_equal}
use Rattle.avl_model.specs.Names.{Names, name_at, to_name, by_name, is_less, Before}
use Rattle.avl_arena.specs.Test.{part_names, between}

-- i comes after lo, where that is one of the n nodes
abbrev pub Lo : Names → ℕ → ℕ → ℕ → Type 0
Lo N n lo i = (n ≤ lo) ⊎ Before N lo i

-- i comes before hi, where that is one of the n nodes
abbrev pub Hi : Names → ℕ → ℕ → ℕ → Type 0
Hi N n hi i = (n ≤ hi) ⊎ Before N i hi

pub before_never : (N : Names) (a : ℕ) → Before N a a → ⊥
unfolding to_name
before_never N a e = let z : Equal ≡ Less = sym (given_equal (name_at N a) (name_at N a) refl) ∙ e in let k : ◌≡◌ {A = ℕ} 0 1 = cc in omega arith

pub less_is : (o : Ordering) → is_less o ≡ true → o ≡ Less
less_is Less e = refl
less_is Equal e = let k : ◌≡◌ {A = ℕ} 0 1 = cc in absurd (omega arith)
less_is Greater e = let k : ◌≡◌ {A = ℕ} 0 1 = cc in absurd (omega arith)

module _ (N : Names) (n : ℕ) where
  part_name : (i : ℕ) → i < n → name_at (part_names n N) i ≡ name_at N i
  part_name i h = λ q. take (get_or-take n N.len i 0 h q) (drop (get_or-take n N.start i 0 h q) N.bytes)

  part_by : (i j : ℕ) → i < n → j < n → by_name (part_names n N) i j ≡ by_name N i j
  unfolding to_name
  part_by i j h k = ap₂ given_order (part_name i h) (part_name j k)

  -- a bound is one of the n nodes, or none
  part_bound : (b : ℕ) (o p : Ordering) → (b < n → o ≡ p) → (leb n b || is_less o) ≡ (leb n b || is_less p)
  part_bound b o p e = elim (dec_lt b n) [
    | yes h ↦ ap (λ (x : Ordering). leb n b || is_less x) (e h)
    | no h ↦ (λ q. le-leb n b (omega arith) q || is_less o) ∙ sym (λ q. le-leb n b (omega arith) q || is_less p)
  ]

  pub part_between : (lo hi i : ℕ) → i < n → between (part_names n N) n lo hi i ≡ between N n lo hi i
  unfolding between
  part_between lo hi i h =
      ap₂ ◌&&◌ (part_bound lo (by_name (part_names n N) lo i) (by_name N lo i) (λ k. part_by lo i k h))
      (part_bound hi (by_name (part_names n N) i hi) (by_name N i hi) (λ k. part_by i hi h k))
