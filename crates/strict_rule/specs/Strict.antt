-- What the strict check answers: a walk that stops at the first fault, in walk order. Assumes nothing.
use Rattle.std.specs.Prelude.{ℕ, zero, suc, ◌+◌, ◌-◌, ◌*◌, ◌/◌, Bool, true, false, ◌&&◌, List, [], ◌∷◌, ◌++◌, leb, eqb}
use Rattle.std.specs.Prelude.{length, Result, Ok, Err}
use Rattle.std.proofs.Math.Option.{Option, some, none}
use Rattle.units.specs.Told.{Told, gives, refuses, pick}
use Rattle.units.specs.declared.Sector.{Sector}
use Rattle.units.specs.declared.Region.{Region}
pub use Rattle.layout_name.specs.Order.{is_less}
use Rattle.name_role.specs.Roles.{stored_order}
use Rattle.layout_node.specs.declared.Header.{Header}
use Rattle.layout_node.specs.Header.{entry_length}
use Rattle.read_entry.specs.declared.Placed.{Placed}
use Rattle.read_entry.specs.Entry.{read_at, name_of, refused}
use Rattle.read_entry.specs.Links.{is_in, walk_absent}
use Rattle.read_walk.specs.Walk.{before, counted, listed}
unfoldable pub use Rattle.read_walk.specs.Walk.{scratch_after}
use Rattle.strict_rule.specs.declared.CheckError.{CheckError}
use Rattle.strict_rule.specs.declared.CheckError.TheVariants as check_error

-- where the entry at an offset ends: its header and name, rounded up to a multiple of 4
abbrev pub end_of : Header → ℕ → ℕ
end_of h o = o + entry_length h.name_len

-- the name of an entry in a window
abbrev pub name_in : List ℕ → Placed → List ℕ
name_in w x = name_of w x.place x.header.name_len

-- both of what is read at an offset; where that is no entry, it has no length and no name
abbrev pub end_by : Told (Option Placed) → ℕ → ℕ
end_by (gives (some x)) o = end_of x.header o
end_by (gives none) o = o
end_by (refuses k vs) o = o

abbrev pub name_by : List ℕ → Told (Option Placed) → List ℕ
name_by w (gives (some x)) = name_in w x
name_by w (gives none) = []
name_by w (refuses k vs) = []

-- an entry from o to e is inside the table and crosses no sector line
abbrev pub in_sector : ℕ → ℕ → ℕ → Bool
in_sector size o e = leb e size && eqb (o / 2048) ((e - 1) / 2048)

-- from o to e there is nothing of the entry at x; and nothing of the entries listed
abbrev pub clear : (ℕ → Told (Option Placed)) → ℕ → ℕ → ℕ → Bool
clear f o e x = pick (leb e x) true (leb (end_by (f x) x) o)

unfoldable pub apart : (ℕ → Told (Option Placed)) → ℕ → ℕ → List ℕ → Bool
apart f o e [] = true
apart f o e (x ∷ xs) = clear f o e x && apart f o e xs

-- in its place: inside the table, over no sector line, and over no entry listed
unfoldable pub placed : (ℕ → Told (Option Placed)) → ℕ → ℕ → ℕ → List ℕ → Bool
placed f size o e seen = in_sector size o e && apart f o e seen

-- a place to visit: its offset, and the offsets of the entries above it, the nearest first: those in whose left subtree
-- it stands, than whose names its own must be less, and those in whose right subtree, than whose names greater
pub record Visit : Type 0 where
  pub offset : ℕ
  pub under : List ℕ
  pub over : List ℕ

-- a name is less than that of the entry at an offset; and greater
abbrev pub is_under : List ℕ → (ℕ → Told (Option Placed)) → List ℕ → ℕ → Bool
is_under w f name o = is_less (stored_order name (name_by w (f o)))

abbrev pub is_over : List ℕ → (ℕ → Told (Option Placed)) → List ℕ → ℕ → Bool
is_over w f name o = is_less (stored_order (name_by w (f o)) name)

-- a test holds at every offset
unfoldable pub every : (ℕ → Bool) → List ℕ → Bool
every test [] = true
every test (o ∷ os) = test o && every test os

-- THE ORDER RULE: a name in the left subtree of an entry is less than the entry's, a name in the right one greater,
-- whichever entry above it that is
unfoldable pub ordered : List ℕ → (ℕ → Told (Option Placed)) → Visit → List ℕ → Bool
ordered w f v name = every (is_under w f name) v.under && every (is_over w f name) v.over

-- the left and the right child of the entry at a visit: it is one more entry above them
abbrev pub visit_left : ℕ → Visit → Visit
visit_left k v = record { offset = 4 * k; under = v.offset ∷ v.under; over = v.over }

abbrev pub visit_right : ℕ → Visit → Visit
visit_right k v = record { offset = 4 * k; under = v.under; over = v.offset ∷ v.over }

-- the root has no entry above it
abbrev pub root : Visit
root = record { offset = 0; under = []; over = [] }

-- at one offset: 30, then 26, then 32, then 31
abbrev pub judged : Bool → Bool → Bool → Bool → ℕ → Told (Unit {0})
judged shared full well right o =
    pick shared (refuses 30 (o ∷ []))
    (pick full (refuses 26 [])
    (pick well (pick right (gives tt) (refuses 31 (o ∷ []))) (refuses 32 (o ∷ []))))

-- the verdict on an entry that is read at a visit, after those listed
unfoldable pub verdict_at : List ℕ → (ℕ → Told (Option Placed)) → ℕ → List ℕ → Bool → Visit → Placed → Told (Unit {0})
verdict_at w f size seen full v x =
    judged (is_in v.offset seen) full (placed f size v.offset (end_of x.header v.offset) seen)
    (ordered w f v (name_in w x)) v.offset

-- go on after a verdict
abbrev pub if_good : Told (Unit {0}) → Told (List ℕ) → Told (List ℕ)
if_good (gives u) x = x
if_good (refuses k vs) x = refuses k vs

-- a child put on the stack, unless its link is absent
unfoldable pub push : ℕ → Visit → List Visit → List Visit
push k v stack = pick (is_in k walk_absent) stack (v ∷ stack)

-- the children of an entry x, read at a visit, on the stack: the left one on top
abbrev pub entered : Visit → Placed → List Visit → List Visit
entered v x stack =
    push x.header.left.0 (visit_left x.header.left.0 v)
    (push x.header.right.0 (visit_right x.header.right.0 v) stack)

abbrev pub by_read : Told (Option Placed) → (Placed → Told (List ℕ)) → Told (List ℕ) → Told (List ℕ)
by_read (gives (some x)) enter rest = enter x
by_read (gives none) enter rest = rest
by_read (refuses k vs) enter rest = refuses k vs

-- down the stack to the next entry; `enter` says what an entry leads to
unfoldable pub to_entry : (ℕ → Told (Option Placed)) → (Visit → Placed → List Visit → Told (List ℕ)) → List Visit
    → Told (List ℕ)
to_entry f enter [] = gives []
to_entry f enter (v ∷ stack) = by_read (f v.offset) (λ x. enter v x stack) (to_entry f enter stack)

-- the check of a stack of visits, with `room` places left in the list, after those listed. `f o` is what is read at
-- offset o; `below v x stack` is the stack with the children of an entry x, read at a visit v, on it
unfoldable pub strict_from : (Visit → Placed → List Visit → List Visit) → List ℕ → (ℕ → Told (Option Placed)) → ℕ → ℕ
    → List ℕ → List Visit → Told (List ℕ)
strict_from below w f size zero seen stack =
    to_entry f (λ v x rest. if_good (verdict_at w f size seen true v x) (refuses 26 [])) stack
strict_from below w f size (suc room) seen stack =
    to_entry f (λ v x rest.
    if_good (verdict_at w f size seen false v x)
    (before (v.offset ∷ []) (strict_from below w f size room (seen ++ (v.offset ∷ [])) (below v x rest)))) stack

-- the strict check of a table from offset 0, into a list of `room` places: a table of size 0 lists nothing
unfoldable pub strict_of : List ℕ → Sector → Region → ℕ → Told (List ℕ)
strict_of w first t room =
    pick (eqb t.size 0) (gives []) (strict_from entered w (read_at w first t) t.size room [] (root ∷ []))

-- THE ANSWER AND THE LIST AFTERWARDS, as the walk has them: 6 where the scratch is not longer than the list, and then
-- all is unchanged; THE SCRATCH AFTERWARDS is the walk's `scratch_after`
unfoldable pub strict_answer : List ℕ → Sector → Region → ℕ → ℕ → Told ℕ
strict_answer w first t n m = pick (leb m n) (refuses 6 []) (counted (strict_of w first t n))

unfoldable pub list_after : List ℕ → Sector → Region → List ℕ → ℕ → List ℕ
list_after w first t list m = pick (leb m (length list)) list (listed (strict_of w first t (length list)) (length list))

-- what each answer of the code stands for
abbrev pub told : Result ℕ CheckError → Told ℕ
told (Ok n) = gives n
told (Err check_error.Room) = refuses 6 []
told (Err (check_error.Read e)) = refused e
told (Err check_error.WalkFull) = refuses 26 []
told (Err (check_error.Shared o)) = refuses 30 (o.0 ∷ [])
told (Err (check_error.OutOfOrder o)) = refuses 31 (o.0 ∷ [])
told (Err (check_error.BadPlace o)) = refuses 32 (o.0 ∷ [])
