-- What each function does to the lists of numbers that it is lent. A store at a number that is no index changes
-- nothing, and `get_or .. 0` reads 0 there, so that none of these asks whether a child is there.
use Rattle.std.specs.Prelude.{ℕ, suc, ◌+◌, ◌<◌, max, Bool, true, false, ◌≡◌, List, length, get_or, set, ltb, eqb}
use Rattle.avl_model.specs.declared.Place.{Place}
use Rattle.avl_model.specs.declared.Direction.{Direction}
use Rattle.avl_model.specs.declared.Direction.TheVariants.{Left as ToLeft, Leaf, Right as ToRight}
use Rattle.avl_model.specs.declared.Place.TheVariants.{Root, Left, Right}
use Rattle.avl_model.specs.Lists.{Lists, lists}

-- the heights with that of `at` made anew from its children's
abbrev pub risen : List ℕ → List ℕ → List ℕ → ℕ → List ℕ
risen l r h at = set h at (max (get_or h (get_or l at 0) 0) (get_or h (get_or r at 0) 0) + 1)

-- a place by a test
abbrev pub pick_place : Bool → Place → Place → Place
pick_place true a b = a
pick_place false a b = b

-- the place where the subtree of `at` hangs
abbrev pub place_of : List ℕ → List ℕ → ℕ → Place
place_of l p at =
    pick_place (ltb (get_or p at 0) (length l))
    (pick_place (eqb (get_or l (get_or p at 0) 0) at) (Left (get_or p at 0)) (Right (get_or p at 0)))
    Root

-- the root, once `to` hangs at a place: it changes only where that is the root
abbrev pub put_root : Place → ℕ → ℕ → ℕ
put_root Root to t = to
put_root (Left p) to t = t
put_root (Right p) to t = t

-- the left column, once `to` hangs at a place
abbrev pub put_left : Place → ℕ → List ℕ → List ℕ
put_left Root to l = l
put_left (Left p) to l = set l p to
put_left (Right p) to l = l

-- the right column, once `to` hangs at a place
abbrev pub put_right : Place → ℕ → List ℕ → List ℕ
put_right Root to l = l
put_right (Left p) to l = l
put_right (Right p) to l = set l p to

-- the side by two tests: more than one higher on the left, and on the right
abbrev pub tilt_by : Bool → Bool → Direction
tilt_by true q = ToLeft
tilt_by false true = ToRight
tilt_by false false = Leaf

-- the side that is more than one higher
abbrev pub tilt_of : ℕ → ℕ → Direction
tilt_of l r = tilt_by (ltb (suc r) l) (ltb (suc l) r)

-- the heights of three nodes made anew, one after the other
abbrev pub risen3 : List ℕ → List ℕ → List ℕ → ℕ → ℕ → ℕ → List ℕ
risen3 l r h i j k = risen l r (risen l r (risen l r h i) j) k

-- l_rotate, where a hangs at q: b, a's right child, comes above a, and b's left subtree goes to a
abbrev pub l_rotated_at : Place → Lists → ℕ → ℕ → ℕ → Lists
l_rotated_at q S a b c =
    let l = set (put_left q b S.L) b a in
    let y = get_or (put_left q b S.L) b 0 in
    let r = set (put_right q b S.R) a y in
    lists (put_root q b S.root) l r (set (set (set S.P b (get_or S.P a 0)) y a) a b) (risen3 l r S.H a c b)

-- the same, at the place where a hangs
unfoldable pub l_rotated : Lists → ℕ → ℕ → ℕ → Lists
l_rotated S a b c = l_rotated_at (place_of S.L S.P a) S a b c

-- rl_rotate: c, the left child of a's right child b, comes above both
abbrev pub rl_rotated_at : Place → Lists → ℕ → ℕ → ℕ → Lists
rl_rotated_at q S a b c =
    let l0 = put_left q c S.L in
    let y = get_or l0 c 0 in
    let r1 = set (put_right q c S.R) a y in
    let w = get_or r1 c 0 in
    let l = set (set l0 b w) c a in
    let r = set r1 c b in
    lists (put_root q c S.root) l r
    (set (set (set (set (set S.P c (get_or S.P a 0)) y a) w b) b c) a c)
    (risen3 l r S.H a b c)

-- the same, at the place where a hangs
unfoldable pub rl_rotated : Lists → ℕ → ℕ → ℕ → Lists
rl_rotated S a b c = rl_rotated_at (place_of S.L S.P a) S a b c

-- each height is below m
abbrev pub Low : ℕ → List ℕ → Type 0
Low m h = (j : ℕ) → get_or h j 0 < m

-- three nodes of lists that are equally long
pub record Three (n r h i j k : ℕ) : Type 0 where
  pub ri : r ≡ n
  pub hi : h ≡ n
  pub i< : i < n
  pub j< : j < n
  pub k< : k < n

-- the parent of what hangs at a place
abbrev pub above_of : Place → ℕ
above_of Root = 65535
above_of (Left p) = p
above_of (Right p) = p

-- a node with no children, at a place; its height is made as the climb starts
abbrev pub attached : Lists → Place → ℕ → Lists
attached S q new =
    lists (put_root q new S.root) (set (put_left q new S.L) new 65535) (set (put_right q new S.R) new 65535)
    (set S.P new (above_of q)) (set S.H new 0)

-- left and right exchanged
abbrev pub mirrored : Lists → Lists
mirrored S = lists S.root S.R S.L S.P S.H
