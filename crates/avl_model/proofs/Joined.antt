-- The steps of a rotation, one after the other, are the rotation's lists. Stated over plain lists, so that a proof of a function only hands the
-- callees' equations over: `cc` at the need itself would have to compute every path into `c`, and meets its bound.
use Rattle.std.proofs.Common.{ℕ, ◌≡◌, List, get_or, set}
use Rattle.avl_model.specs.Lists.{Lists, lists}
use Rattle.avl_model.specs.inner.Lists.{place_of, put_root, put_left, put_right, risen3, l_rotated, rl_rotated}

-- lists whose parts are known
pub made_of : {T : Lists} {t : ℕ} {l r p h : List ℕ} → T.root ≡ t → T.L ≡ l → T.R ≡ r → T.P ≡ p → T.H ≡ h → T ≡ lists t l r p h
made_of t l r p h = λ i. lists (t i) (l i) (r i) (p i) (h i)

pub l_joined : (S T : Lists) (a b c : ℕ) {t1 : ℕ} {l1 r1 p1 h1 r2 p2 l3 p3 : List ℕ}
    → t1 ≡ put_root (place_of S.L S.P a) b S.root → l1 ≡ put_left (place_of S.L S.P a) b S.L
    → r1 ≡ put_right (place_of S.L S.P a) b S.R → p1 ≡ set S.P b (get_or S.P a 0) → h1 ≡ S.H
    → r2 ≡ set r1 a (get_or l1 b 0) → p2 ≡ set p1 (get_or l1 b 0) a
    → l3 ≡ set l1 b a → p3 ≡ set p2 a b
    → T ≡ lists t1 l3 r2 p3 (risen3 l3 r2 h1 a c b)
    → T ≡ l_rotated S a b c
unfolding l_rotated
l_joined S T a b c e1 e2 e3 e4 e5 e6 e7 e8 e9 e = cc

pub rl_joined : (S T : Lists) (a b c : ℕ) {t1 : ℕ} {l1 r1 p1 h1 r2 p2 l3 p3 r4 p4 l5 p5 : List ℕ}
    → t1 ≡ put_root (place_of S.L S.P a) c S.root → l1 ≡ put_left (place_of S.L S.P a) c S.L
    → r1 ≡ put_right (place_of S.L S.P a) c S.R → p1 ≡ set S.P c (get_or S.P a 0) → h1 ≡ S.H
    → r2 ≡ set r1 a (get_or l1 c 0) → p2 ≡ set p1 (get_or l1 c 0) a
    → l3 ≡ set l1 b (get_or r2 c 0) → p3 ≡ set p2 (get_or r2 c 0) b
    → r4 ≡ set r2 c b → p4 ≡ set p3 b c
    → l5 ≡ set l3 c a → p5 ≡ set p4 a c
    → T ≡ lists t1 l5 r4 p5 (risen3 l5 r4 h1 a b c)
    → T ≡ rl_rotated S a b c
unfolding rl_rotated
rl_joined S T a b c e1 e2 e3 e4 e5 e6 e7 e8 e9 e10 e11 e12 e13 e = cc
