-- A table as a tree of entries: which entries its links lead to, in which order the walk lists them, and when its
-- names are in order. Assumes nothing.
use Rattle.std.specs.Prelude.{ℕ, ◌*◌, ◌≡◌, List, [], ◌∷◌, ◌++◌}
use Rattle.std.proofs.Math.Option.{Option, some, none}
use Rattle.units.specs.Told.{Told, gives, pick}
use Rattle.units.specs.declared.Sector.{Sector}
use Rattle.units.specs.declared.Region.{Region}
use Rattle.std.specs.declared.cmp.Ordering.TheVariants.{Less, Greater}
use Rattle.name_role.specs.Roles.{stored_order}
use Rattle.read_entry.specs.declared.Placed.{Placed}
use Rattle.read_entry.specs.Entry.{read_at}
use Rattle.read_entry.specs.Links.{is_in, walk_absent}
use Rattle.strict_rule.specs.Strict.{name_in}

-- nothing; or an entry and its offset, between the tree to its left and the tree to its right
pub data Shape : Type 0 where
  leaf : Shape
  node : Shape → ℕ → Placed → Shape → Shape

-- the offsets in walk order
unfoldable pub preorder : Shape → List ℕ
preorder leaf = []
preorder (node l o x r) = o ∷ (preorder l ++ preorder r)

-- every entry of a tree, with its offset, has a property
abbrev pub Every : (ℕ → Placed → Type 0) → Shape → Type 0
Every P leaf = Unit {0}
Every P (node l o x r) = P o x × Every P l × Every P r

-- where a link leads, as the walk follows links: nowhere, or to an offset
abbrev pub place_by : ℕ → Option ℕ
place_by k = pick (is_in k walk_absent) none (some (4 * k))

-- THE TREE OF A PLACE: at no place, and at a header that is no entry, nothing; at an entry the entry, with the trees
-- that its two links lead to. `f o` is what is read at offset o
pub data Hangs (f : ℕ → Told (Option Placed)) : Option ℕ → Shape → Type 0 where
  nowhere : Hangs f none leaf
  blank : {o : ℕ} → f o ≡ gives none → Hangs f (some o) leaf
  entry : {o : ℕ} {x : Placed} {l r : Shape} → f o ≡ gives (some x)
      → Hangs f (place_by x.header.left.0) l → Hangs f (place_by x.header.right.0) r
      → Hangs f (some o) (node l o x r)

-- THE ORDER: every name to the left of an entry is less than the entry's, every name to the right of it greater
abbrev pub Ordered : List ℕ → Shape → Type 0
Ordered w leaf = Unit {0}
Ordered w (node l o x r) =
    Every (λ p y. stored_order (name_in w y) (name_in w x) ≡ Less) l
    × Every (λ p y. stored_order (name_in w y) (name_in w x) ≡ Greater) r
    × Ordered w l
    × Ordered w r

-- a table whose walk lists xs is an ordered tree, from offset 0 on
pub record Shaped (w : List ℕ) (first : Sector) (t : Region) (xs : List ℕ) : Type 0 where
  pub shape : Shape
  pub hangs : Hangs (read_at w first t) (some 0) shape
  pub lists : preorder shape ≡ xs
  pub ordered : Ordered w shape
