-- The tree of a list of entries, added one after another, or the first refusal with the entry's number. Assumes
-- nothing.
use Rattle.std.specs.Prelude.{ℕ, zero, suc, ◌+◌, List, [], ◌∷◌, ltb}
use Rattle.units.specs.Told.{Told, gives, refuses, pick}
use Rattle.std.specs.declared.cmp.Ordering.{Ordering}
use Rattle.name_role.specs.Roles.{given_order}
use Rattle.dirtab_entry.specs.declared.Entry as given
use Rattle.dirtab_entry.specs.Entry.{name_in, check_of}
use Rattle.avl_model.specs.declared.Spot.{Spot}
use Rattle.avl_model.specs.declared.Spot.TheVariants.{Same, Free}
use Rattle.avl_model.specs.declared.Place.TheVariants.{Root}
use Rattle.avl_model.specs.Names.{is_less}
use Rattle.avl_model.specs.Seek.{spot_in}
use Rattle.avl_model.specs.Tree.{Tree, leaf, ins}

-- a refusal of entry i carries its number; else go on
abbrev pub if_taken : ℕ → Told (Unit {0}) → Told Tree → Told Tree
if_taken i (gives u) x = x
if_taken i (refuses k vs) x = refuses k (i ∷ [])

-- 4 where the name is there
abbrev pub if_free : ℕ → Spot → Told Tree → Told Tree
if_free i (Same j) x = refuses 4 (i ∷ [])
if_free i (Free q) x = x

-- `check i` is what is asked of entry i by itself, `between i j` the order of the names of two entries
module _ (check : ℕ → Told (Unit {0})) (between : ℕ → ℕ → Ordering) where
  -- k more entries from number i on, put into the tree t: the checks of each by itself, then 4, then 6
  unfoldable pub grow_from : ℕ → ℕ → Tree → Told Tree
  grow_from zero i t = gives t
  grow_from (suc k) i t =
      if_taken i (check i)
      (if_free i (spot_in (between i) t Root)
      (pick (ltb i 16384) (grow_from k (i + 1) (ins (λ j. is_less (between i j)) i t)) (refuses 6 (i ∷ []))))

-- the order of the names of two entries of a list; `bytes` are lent for names
abbrev pub order_in : List ℕ → (ℕ → given.Entry) → ℕ → ℕ → Ordering
order_in bytes entry i j = given_order (name_in bytes (entry i)) (name_in bytes (entry j))

-- the tree of the first n entries of a list, with adding's checks 1, 2, 3, 5, 4, 6 for each
abbrev pub grow : List ℕ → (ℕ → given.Entry) → ℕ → Told Tree
grow bytes entry n = grow_from (λ i. check_of bytes (entry i)) (order_in bytes entry) n 0 leaf
