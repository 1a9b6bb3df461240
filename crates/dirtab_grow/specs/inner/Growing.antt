-- What columns hold while a list's entries are put in one after another, and what each step answers. Assumes nothing.
use Rattle.std.specs.Prelude.{ℕ, ◌+◌, ◌-◌, ◌≤◌, ◌<◌, ◌≡◌, Bool, true, List, [], ◌∷◌, ltb, length, get_or}
use Rattle.std.specs.Prelude.{Result, Ok, Err}
use Rattle.units.specs.Told.{Told, gives, refuses, pick}
use Rattle.dirtab_entry.specs.declared.Cause.{Cause}
use Rattle.dirtab_entry.specs.Entry.{cause_number}
use Rattle.avl_model.specs.declared.Place.{Place}
use Rattle.avl_model.specs.declared.Place.TheVariants.{Root, Right}
use Rattle.avl_model.specs.declared.Spot.{Spot}
use Rattle.avl_model.specs.declared.Spot.TheVariants.{Free}
use Rattle.avl_model.specs.Tree.{Tree, cnt}
use Rattle.avl_model.specs.Laws.{Avl, All}
use Rattle.avl_model.specs.inner.Rep.{hole}
use Rattle.avl_model.specs.Lists.{Lists}
use Rattle.avl_model.specs.Rep.{arr_of}
use Rattle.avl_model.specs.inner.Held.{Long, Held}
use Rattle.avl_model.specs.Names.{Names, name_at, by_name}
use Rattle.avl_model.specs.inner.Names.{Inside}
use Rattle.avl_model.specs.Seek.{spot_in}
use Rattle.avl_keyed.specs.inner.Key.{key_for, Keyed}
use Rattle.dirtab_grow.specs.declared.Seat.{Seat}
use Rattle.dirtab_grow.specs.declared.RefusedEntry.{RefusedEntry}
use Rattle.dirtab_grow.specs.Listing.{Listing}
use Rattle.dirtab_grow.specs.Grow.{if_taken, if_free}

-- what a step on entry i makes of the rest x: it goes on, or it refuses with the entry's number
abbrev pub go_on : Result (Unit {0}) Cause → ℕ → Told Tree → Told Tree
go_on (Ok u) i x = x
go_on (Err c) i x = refuses (cause_number c) (i ∷ [])

-- what entry i is to make of it: u is what its checks say, s where its name stands or would hang
abbrev pub step_of : Told (Unit {0}) → Spot → ℕ → Told Tree → Told Tree
step_of u s i x = if_taken i u (if_free i s (pick (ltb i 16384) x (refuses 6 (i ∷ []))))

-- the first n places of the columns hold the balanced tree t, of the numbers below n, each with its name
pub record Grown (S : Lists) (N : Names) (n : ℕ) (t : Tree) : Type 0 where
  pub held : Held (arr_of S) n t hole 0
  pub full : (j : ℕ) → j < n → 1 ≤ cnt j t
  pub even : Avl t
  pub named : All (Inside N) t
  pub low : n ≤ 16384

-- they hold some such tree, and the column K has the keys of the names
pub record Growing (S : Lists) (K : List ℕ) (N : Names) (n : ℕ) : Type 0 where
  pub t : Tree
  pub grown : Grown S N n t
  pub keyed : All (Keyed K N) t

-- where the flag is set, the name of the entry `new` goes to the right of the entry before it, in the tree t
abbrev pub After : Bool → Names → Tree → ℕ → Type 0
After after N t new = after ≡ true → (0 < new) × (spot_in (by_name N new) t Root ≡ Free (Right (new - 1)))

-- what putting the entry `new` in takes, on columns of just so many places
pub record Hangable (S : Lists) (K : List ℕ) (N : Names) (new : ℕ) : Type 0 where
  pub growing : Growing S K N new
  pub long : Long (new + 1) S
  pub has : new < length K
  pub inside : Inside N new
  pub short : get_or N.len new 0 ≤ 255

-- number i has its place in every column of the tree
pub record Wide (S : Lists) (K : List ℕ) (i : ℕ) : Type 0 where
  pub k : i < length K
  pub l : i < length S.L
  pub r : i < length S.R
  pub p : i < length S.P
  pub h : i < length S.H

-- every column has a place for each of the first n entries
pub record Roomy (L : Listing) (S : Lists) (K : List ℕ) (n : ℕ) : Type 0 where
  pub start : n ≤ length L.start
  pub len : n ≤ length L.len
  pub size : n ≤ length L.size
  pub kind : n ≤ length L.kind
  pub l : n ≤ length S.L
  pub r : n ≤ length S.R
  pub p : n ≤ length S.P
  pub h : n ≤ length S.H
  pub k : n ≤ length K

-- T has columns of the same lengths as S
pub record KeepsLengths (S T : Lists) : Type 0 where
  pub l : length T.L ≡ length S.L
  pub r : length T.R ≡ length S.R
  pub p : length T.P ≡ length S.P
  pub h : length T.H ≡ length S.H

-- what the search for a place answers, where the name of entry i stands or would hang at s
abbrev pub Found : Result Place Cause → Spot → ℕ → Type 0
Found (Ok q) s i = s ≡ Free q
Found (Err c) s i = (x : Told Tree) → refuses (cause_number c) (i ∷ []) ≡ step_of (gives tt) s i x

-- and what the choice of a seat answers
abbrev pub Seated : Result Seat Cause → Names → Spot → ℕ → Type 0
Seated (Ok a) N s i = (s ≡ Free a.place) × ((i < 16384) × (a.key ≡ key_for (name_at N i)))
Seated (Err c) N s i = (x : Told Tree) → refuses (cause_number c) (i ∷ []) ≡ step_of (gives tt) s i x

-- what a step answers, and leaves in the columns: t is the tree with the entry i in it
pub record Stepped (r : Result (Unit {0}) Cause) (u : Told (Unit {0})) (s : Spot) (i : ℕ) (S : Lists) (K : List ℕ)
    (N : Names) (t : Tree) : Type 0 where
  pub answer : (x : Told Tree) → go_on r i x ≡ step_of u s i x
  pub taken : r ≡ Ok tt → Grown S N (i + 1) t
  pub keyed : r ≡ Ok tt → All (Keyed K N) t

-- the tree that is told, in the first n places of the columns
pub record Holding (g : Told Tree) (S : Lists) (N : Names) (n : ℕ) : Type 0 where
  pub t : Tree
  pub told : g ≡ gives t
  pub grown : Grown S N n t

-- what building answers and leaves, where g is to be told of the tree
abbrev pub Outcome : Result (Unit {0}) RefusedEntry → Told Tree → Lists → Names → ℕ → Type 0
Outcome (Ok u) g S N n = Holding g S N n
Outcome (Err e) g S N n = g ≡ refuses (cause_number e.cause) (e.entry ∷ [])
