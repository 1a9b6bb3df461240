-- What a walk of a table lists: preorder, left before right, by a stack of offsets. Assumes nothing. It needs no
-- bound on its steps: each entry takes a place of the list, of which there are `room`, and between two entries the
-- stack only shrinks, so the definition recurses on the places, and within them on the stack.
use Rattle.std.specs.Prelude.{ℕ, zero, suc, ◌-◌, ◌*◌, not, List, [], ◌∷◌, ◌++◌, leb, eqb, length, replicate}
use Rattle.std.specs.Prelude.{Result, Ok, Err}
use Rattle.std.proofs.Math.Option.{Option, some, none}
use Rattle.units.specs.Told.{Told, gives, refuses, pick}
use Rattle.units.specs.Lent.{cleared_if}
use Rattle.units.specs.declared.Sector.{Sector}
use Rattle.units.specs.declared.Region.{Region}
use Rattle.layout_node.specs.declared.Header.{Header}
use Rattle.read_entry.specs.declared.Placed.{Placed}
use Rattle.read_entry.specs.Entry.{read_at, refused}
use Rattle.read_entry.specs.Links.{is_in, walk_absent}
use Rattle.read_walk.specs.declared.WalkError.{WalkError}
use Rattle.read_walk.specs.declared.WalkError.TheVariants as walk_error

-- what a walk lists, with offsets listed before
abbrev pub before : List ℕ → Told (List ℕ) → Told (List ℕ)
before xs (gives ys) = gives (xs ++ ys)
before xs (refuses k vs) = refuses k vs

-- a link's offset put on the stack, unless it is absent
unfoldable pub push : List ℕ → ℕ → List ℕ → List ℕ
push absent k stack = pick (is_in k absent) stack (4 * k ∷ stack)

-- what is found at the stack's first offset: an entry is entered, no entry is passed over, a refusal ends the walk
abbrev pub by_read : Told (Option Placed) → (Header → Told (List ℕ)) → Told (List ℕ) → Told (List ℕ)
by_read (gives (some x)) enter rest = enter x.header
by_read (gives none) enter rest = rest
by_read (refuses k vs) enter rest = refuses k vs

-- down the stack to the next entry; `enter` says what an entry leads to
unfoldable pub to_entry : (ℕ → Told (Option Placed)) → (ℕ → Header → List ℕ → Told (List ℕ)) → List ℕ → Told (List ℕ)
to_entry f enter [] = gives []
to_entry f enter (o ∷ stack) = by_read (f o) (λ h. enter o h stack) (to_entry f enter stack)

-- the walk of a stack of offsets, with `room` places left in the list: an entry with no place left is 26; else it
-- is listed, and its right and then its left link put on the stack. `f o` is what is read at offset o
unfoldable pub walk_from : List ℕ → (ℕ → Told (Option Placed)) → ℕ → List ℕ → Told (List ℕ)
walk_from absent f zero stack = to_entry f (λ o h rest. refuses 26 []) stack
walk_from absent f (suc room) stack =
    to_entry f
    (λ o h rest. before (o ∷ []) (walk_from absent f room (push absent h.left.0 (push absent h.right.0 rest))))
    stack

-- the walk of a table from offset 0, into a list of `room` places: a table of size 0 lists nothing
unfoldable pub walk_of : List ℕ → Sector → Region → ℕ → Told (List ℕ)
walk_of w first t room = pick (eqb t.size 0) (gives []) (walk_from walk_absent (read_at w first t) room (0 ∷ []))

-- how many are listed
abbrev pub counted : Told (List ℕ) → Told ℕ
counted (gives xs) = gives (length xs)
counted (refuses k vs) = refuses k vs

-- a list of n places after a walk: what is listed, and zeros past it; all zeros after a refusal
abbrev pub listed : Told (List ℕ) → ℕ → List ℕ
listed (gives xs) n = xs ++ replicate (n - length xs) 0
listed (refuses k vs) n = replicate n 0

-- THE ANSWER: 6 where the scratch is not longer than the list; else what the walk gives. n and m are the lengths of
-- the list and of the scratch
unfoldable pub walk_answer : List ℕ → Sector → Region → ℕ → ℕ → Told ℕ
walk_answer w first t n m = pick (leb m n) (refuses 6 []) (counted (walk_of w first t n))

-- THE LIST AFTERWARDS: unchanged after 6
unfoldable pub list_after : List ℕ → Sector → Region → List ℕ → ℕ → List ℕ
list_after w first t list m = pick (leb m (length list)) list (listed (walk_of w first t (length list)) (length list))

-- THE SCRATCH AFTERWARDS: unchanged after 6, else all zero
unfoldable pub scratch_after : ℕ → List ℕ → List ℕ
scratch_after n scratch = cleared_if (not (leb (length scratch) n)) scratch

-- what each answer of the code stands for
abbrev pub told : Result ℕ WalkError → Told ℕ
told (Ok n) = gives n
told (Err walk_error.Room) = refuses 6 []
told (Err (walk_error.Read e)) = refused e
told (Err walk_error.WalkFull) = refuses 26 []
