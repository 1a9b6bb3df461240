-- A reader's links are the walk's: a loader that keeps the offsets to come on a stack of its own, and goes by `left` and `right`, lists what the walk lists. Assumes nothing.
-- The position alone does not say what is next in the walk: of an entry that two links name, the walk lists the offset twice, and what follows differs.
use Prim.Native.Nat.{ℕ, zero, suc, ◌*◌}
use mathlib.Core.Path.{◌≡◌, refl, sym, ap, ◌∙◌}
use mathlib.Core.Bool.{Bool, true, false}
use mathlib.Core.List.{List, [], ◌∷◌, ◌++◌}
use mathlib.Core.Option.{Option, some, none}
use native.Mathlib.Omega.{arith}
use Rattle.units.specs.Told.{Told, gives, refuses, pick}
use Rattle.units.specs.Region.{locate_of}
use Rattle.units.specs.declared.Sector.{Sector}
use Rattle.units.specs.declared.Region.{Region}
use Rattle.layout_bytes.specs.Bytes.{all}
use Rattle.layout_node.specs.declared.Header.{Header}
use Rattle.layout_node.specs.Header.{header_of, is_blank}
use Rattle.read_entry.specs.Entry.{Placed, read_here, read_at}
use Rattle.read_entry.specs.Links.{is_in, walk_absent}
use Rattle.read_lookup.proofs.Cases.{file, of_size, first as first-sector}
use Rattle.read_walk.specs.Walk.{before, push, by_read, to_entry, walk_from, walk_of}
use Rattle.read_place.specs.Place.{by_link, left_at, right_at}
use Rattle.reader.specs.Through.{onto, by_links, Follows}

onto_by : (b : Bool) (o : ℕ) (stack : List ℕ) → pick b stack (o ∷ stack) ≡ onto (pick b (gives none) (gives (some o))) stack
onto_by true o stack = refl
onto_by false o stack = refl

-- the walk puts a link on its stack as a reader answers it
pushed : (k : ℕ) (stack : List ℕ) → push walk_absent k stack ≡ onto (by_link walk_absent k) stack
unfolding push by_link
pushed k stack = onto_by (is_in k walk_absent) (4 * k) stack

-- down a stack to the next entry, where an entry that stands there leads to the same
module _ (f : ℕ → Told (Option Placed)) (a b : ℕ → Header → List ℕ → Told (List ℕ)) (same : (o : ℕ) (x : Placed) (rest : List ℕ) → f o ≡ gives (some x) → a o x.header rest ≡ b o x.header rest) where
  down_by : (o : ℕ) (rest : List ℕ) (u v : Told (List ℕ)) → u ≡ v → (r : Told (Option Placed)) → f o ≡ r → by_read r (λ h. a o h rest) u ≡ by_read r (λ h. b o h rest) v
  down_by o rest u v e (gives (some x)) is = same o x rest is
  down_by o rest u v e (gives none) is = e
  down_by o rest u v e (refuses k vs) is = refl

  down : (stack : List ℕ) → to_entry f a stack ≡ to_entry f b stack
  unfolding to_entry
  down [] = refl
  down (o ∷ rest) = down_by o rest (to_entry f a rest) (to_entry f b rest) (down rest) (f o) refl

module _ (w : List ℕ) (first : Sector) (t : Region) where
  -- the stack after an entry
  stacked : (o : ℕ) (x : Placed) (rest : List ℕ) → read_at w first t o ≡ gives (some x) →
      onto (left_at w first t o) (onto (right_at w first t o) rest) ≡ push walk_absent x.header.left.0 (push walk_absent x.header.right.0 rest)
  unfolding left_at right_at
  stacked o x rest e = rw (e, pushed x.header.right.0 rest, pushed x.header.left.0 (onto (by_link walk_absent x.header.right.0) rest))

  -- what a loader lists by the links is what the walk lists
  pub walks_by_links : (room : ℕ) (stack : List ℕ) → by_links w first t room stack ≡ walk_from walk_absent (read_at w first t) room stack
  unfolding by_links walk_from
  walks_by_links zero stack = refl
  walks_by_links (suc room) stack =
      down (read_at w first t) _ _
      (λ o x rest e. ap (before (o ∷ [])) (walks_by_links room (onto (left_at w first t o) (onto (right_at w first t o) rest)) ∙ ap (walk_from walk_absent (read_at w first t) room) (stacked o x rest e)))
      stack

-- two files, of which the first has the second to its left and to its right
abbrev pub twice : List ℕ
twice = file 4 4 34 98 ++ file 0 0 35 97

pub listed_twice : walk_of twice first-sector (of_size 32) 3 ≡ gives (0 ∷ 16 ∷ 16 ∷ [])
unfolding walk_of walk_from to_entry push is_in read_at locate_of read_here header_of all is_blank
listed_twice = refl

-- no function of the offset alone says what is next in that walk
pub no_next : (next : ℕ → Option ℕ) → Follows next (0 ∷ 16 ∷ 16 ∷ []) → ⊥
no_next next f = let e : ◌≡◌ {A = Option ℕ} (some 16) none = sym f.1.0 ∙ f.1.1 in let z : ◌≡◌ {A = ℕ} 0 1 = cc in absurd (omega arith)
