-- A TABLE'S BYTES FILL ITS RUN, and every directory's table has one: the root's, or that of the entry which names it. Assumes nothing.
use Prim.Native.Nat.{ℕ, zero, suc, ◌+◌, ◌*◌, ◌/◌, ◌≤◌, ◌<◌}
use native.Mathlib.Omega.{arith}
use native.Mathlib.Decide.{dec_le, ℕ_discrete}
use mathlib.Core.Path.{◌≡◌, refl, sym, ap, subst, ◌∙◌}
use mathlib.Core.Bool.{Bool, true, false}
use mathlib.Core.List.Memᴰ
use mathlib.Core.List.{List, [], ◌∷◌, map, Memᴰ}
use lib.ListN.{length}
use borrow.Author.Tests.{eqb-true, ne_eqb}
use Rattle.units.specs.Told.{pick}
use Rattle.layout_sector.specs.Counter.{sectors_for}
use Rattle.dirtab_entry.specs.Entry.{rounded}
use Rattle.avl_model.specs.Tree.{Tree, leaf, node}
use Rattle.avl_model.specs.Laws.{All}
use Rattle.avl_model.proofs.Frame.{δ-apart}
use Rattle.avl_arena.proofs.Tested.{and_l, and_r}
use Rattle.table_model.specs.Entry.{Entry}
use Rattle.table_model.specs.Place.{stop_of, end_of}
use Rattle.table_model.specs.Table.{size_of, table_bytes}
use Rattle.table_model.proofs.Places.{FitsAt, end_after}
use Rattle.table_model.proofs.Bytes.{table_length}
use Rattle.img_model.specs.Shares.{Request, share_of, directories_of, count_of, is_directory, value_of, tally, names, namings}
use Rattle.img_model.specs.Plan.{table_in, entries_at, Plan}
use Rattle.img_model.proofs.Rule.{named_once_lem}
use Rattle.img_model.proofs.Passed.{all_fit}
use Rattle.agree.specs.Given.{times}
use Rattle.agree_plan.specs.Planned.{tree_at, root_sector, start_sector, items_at, Planned, Disjoint, sector_at, table_sector}
use Rattle.agree_plan.specs.Runs.{Run, run_of, runs_of}
use Rattle.agree_plan.proofs.Tables.{rule_kept, table_planned}
use Rattle.agree_plan.proofs.Sectors.{root_planned, sectors_planned}
use Rattle.agree_plan.proofs.Follows.{runs_planned}
use Rattle.agree_plan.proofs.Agrees.{directory_size}

-- whole sectors
some_sectors : (n : ℕ) → 0 < n → sectors_for n ≡ (n + 2047) / 2048
unfolding sectors_for
some_sectors n h = ap (λ (b : Bool). pick b 1 ((n + 2047) / 2048)) (ne_eqb n 0 (λ e. omega arith))

rounded_sectors : (n : ℕ) → 0 < n → (2048 * sectors_for n ≡ rounded n) × (sectors_for (rounded n) ≡ sectors_for n)
rounded_sectors n h =
    let a : sectors_for n ≡ (n + 2047) / 2048 = some_sectors n h in
    let b : sectors_for (rounded n) ≡ (rounded n + 2047) / 2048 = some_sectors (rounded n) (omega arith) in
    let c : (rounded n + 2047) / 2048 ≡ (n + 2047) / 2048 = omega arith in
    (ap (λ (m : ℕ). 2048 * m) a ∙ omega arith, b ∙ c ∙ sym a)

-- a table has some bytes
some_size : (entry : ℕ → Entry) (t : Tree) → All (FitsAt entry) t → 0 < size_of entry t
unfolding end_of
some_size entry leaf a = omega arith
some_size entry (node l i r) a = omega (arith, end_after entry l (stop_of entry 0 i) a.1, end_after entry r (end_of entry (stop_of entry 0 i) l) a.2)

-- one that passes, where some do
tally_some : (f : ℕ → Bool) (m : ℕ) → 1 ≤ tally f m → (i : ℕ) × ((i < m) × (f i ≡ true))
tally_some f zero h = absurd (omega arith)
tally_some f (suc m) h = go (f m) refl h (tally_some f m)
  where
    go : (b : Bool) → f m ≡ b → 1 ≤ pick b (suc (tally f m)) (tally f m) → (1 ≤ tally f m → (i : ℕ) × ((i < m) × (f i ≡ true))) → (i : ℕ) × ((i < suc m) × (f i ≡ true))
    go true e k ih = (m, (omega arith, e))
    go false e k ih = let r = ih k in (r.0, (omega (arith, r.1.0), r.1.1))

-- an entry that names directory x
record Namer (R : Request) (x n : ℕ) : Type 0 where
  dir : ℕ
  num : ℕ
  below : dir < n
  inside : num < count_of R dir
  kind : is_directory (share_of R dir) num ≡ true
  value : value_of (share_of R dir) num ≡ x

namer : (R : Request) (x n : ℕ) → 1 ≤ namings R x n → Namer R x n
namer R x zero h = absurd (omega arith)
namer R x (suc n) h = elim (dec_le 1 (namings R x n)) [
  | yes k ↦ let r = namer R x n k in record { dir = r.dir; num = r.num; below = omega (arith, r.below); inside = r.inside; kind = r.kind; value = r.value }
  | no k ↦
      let u = tally_some (names (share_of R n) x) (count_of R n) (omega (arith, k)) in
      record {
        dir = n;
        num = u.0;
        below = omega arith;
        inside = u.1.0;
        kind = and_l _ _ u.1.1;
        value = eqb-true (value_of (share_of R n) u.0) x (and_r (is_directory (share_of R n) u.0) _ u.1.1);
      }
]

-- what stands in a list stands in it mapped
mem_map : (f : ℕ → Run) (is : List ℕ) (i : ℕ) → 1 ≤ times i is → Memᴰ (f i) (map f is)
mem_map f [] i h = absurd (omega arith)
mem_map f (j ∷ is) i h = elim (ℕ_discrete i j) [
  | yes e ↦ Memᴰ.head (ap f e)
  | no e ↦ Memᴰ.tail (mem_map f is i (omega (arith, δ-apart j i (λ q. e (sym q)))))
]

mem_runs : (R : Request) (sizes : List ℕ) (r : Run) (d n : ℕ) → d < n → Memᴰ r (map run_of (items_at R sizes d)) → Memᴰ r (runs_of R sizes n)
unfolding runs_of
mem_runs R sizes r d zero h m = absurd (omega arith)
mem_runs R sizes r d (suc n) h m = elim (ℕ_discrete d n) [
  | yes e ↦ Memᴰ.append_right (runs_of R sizes n) (subst (λ (k : ℕ). Memᴰ r (map run_of (items_at R sizes k))) e m)
  | no e ↦ Memᴰ.append_left (map run_of (items_at R sizes n)) (mem_runs R sizes r d n (omega (arith, e)) m)
]

mem_root : (R : Request) (sizes : List ℕ) (n : ℕ) → Memᴰ (record { start = root_sector; count = sectors_for (table_in sizes 0) }) (runs_of R sizes n)
unfolding runs_of
mem_root R sizes zero = Memᴰ.head refl
mem_root R sizes (suc n) = Memᴰ.append_left (map run_of (items_at R sizes n)) (mem_root R sizes n)

module _ (R : Request) (places : ℕ) (tables sectors : List ℕ) (p : Plan) (g : Planned R places tables sectors p) where
  abbrev S : List ℕ
  S = p.sizes

  size_some : (d : ℕ) → d < directories_of R → 0 < table_in S d
  size_some d h =
      let T = table_planned R places tables sectors p g d h in
      subst (λ (n : ℕ). 0 < n) (sym T.sized) (some_size (entries_at R S d) (tree_at R S d) (all_fit (share_of R d) (table_in S) T.grown))

  -- THE BYTES of a table are as many as its sectors have
  pub table_fills : (d : ℕ) → d < directories_of R
      → length (table_bytes (entries_at R p.sizes d) 1 (start_sector R p.sizes d) (tree_at R p.sizes d)) ≡ 2048 * sectors_for (table_in p.sizes d)
  table_fills d h =
      let T = table_planned R places tables sectors p g d h in
      table_length (entries_at R S d) 1 (tree_at R S d) (start_sector R S d) (all_fit (share_of R d) (table_in S) T.grown)
      ∙ ap rounded (sym T.sized) ∙ sym (rounded_sectors (table_in S d) (size_some d h)).0

  -- ITS RUN, from its planned sector on, is one of the plan's
  pub table_run : Disjoint R → (x : ℕ) → x < directories_of R
      → Memᴰ (record { start = table_sector p x; count = sectors_for (table_in p.sizes x) }) (runs_of R p.sizes (directories_of R))
  table_run apart x h = elim (ℕ_discrete x 0) [
    | yes e ↦
        subst (λ (r : Run). Memᴰ r (runs_of R S (directories_of R)))
        (λ k. record { start = (sym (root_planned R places tables sectors p g) ∙ ap (table_sector p) (sym e)) k; count = ap (λ (m : ℕ). sectors_for (table_in S m)) (sym e) k }) (mem_root R S (directories_of R))
    | no e ↦ named (namer R x (directories_of R) (omega (arith, named_once_lem R (rule_kept R places tables sectors p g) x (omega (arith, e)) h)))
  ]
    where
      named : Namer R x (directories_of R) → Memᴰ (record { start = table_sector p x; count = sectors_for (table_in S x) }) (runs_of R S (directories_of R))
      named n =
          let s = sectors_planned R places tables sectors p g apart n.dir n.below in
          let f : ℕ → Run = λ i. record { start = sector_at R p n.dir i; count = sectors_for (entries_at R S n.dir i).size } in
          let at : sector_at R p n.dir n.num ≡ table_sector p x = sym (s.tables n.num n.inside n.kind) ∙ ap (table_sector p) n.value in
          let size : (entries_at R S n.dir n.num).size ≡ rounded (table_in S x) =
          directory_size (is_directory (share_of R n.dir) n.num) (table_in S (value_of (share_of R n.dir) n.num)) (value_of (share_of R n.dir) n.num) n.kind
          ∙ ap (λ (m : ℕ). rounded (table_in S m)) n.value in
          let count : sectors_for (entries_at R S n.dir n.num).size ≡ sectors_for (table_in S x) = ap sectors_for size ∙ (rounded_sectors (table_in S x) (size_some x h)).1 in
          subst (λ (r : Run). Memᴰ r (runs_of R S (directories_of R))) (λ k. record { start = at k; count = count k })
          (mem_runs R S (f n.num) n.dir (directories_of R) n.below
          (subst (Memᴰ (f n.num)) (sym (runs_planned R places tables sectors p g apart n.dir n.below)) (mem_map f s.numbers n.num (omega (arith, s.once n.num n.inside)))))
