-- The rotations, on arrays taken as functions: from what the stores changed, and where, to the rotated tree.
use Rattle.std.proofs.Common.{ℕ, suc, ◌+◌, ◌≤◌, max, arith, ◌≡◌, ◌∙◌}
use Rattle.avl_model.specs.Tree.{Tree, node, top, ht, δ, cnt}
use Rattle.avl_model.specs.Rep.{Arr}
use Rattle.avl_model.specs.inner.Rep.{Ctx, cnt_k, At}
use Rattle.avl_model.proofs.Frame.{δ-same, Agree, Moved, apart, frame, frame_link, frame_k, move}

-- What l_rotate changes: a's right child b comes above a, and b's left subtree y goes to a.
pub record Single (A B : Arr) (a b : ℕ) (x y : Tree) : Type 0 where
  pub root : B.root ≡ A.root
  pub Lb : B.L b ≡ a
  pub L-else : (j : ℕ) → (j ≡ b → ⊥) → B.L j ≡ A.L j
  pub Ra : B.R a ≡ top y
  pub R-else : (j : ℕ) → (j ≡ a → ⊥) → B.R j ≡ A.R j
  pub Pa : B.P a ≡ b
  pub Pb : B.P b ≡ A.P a
  pub Py : 1 ≤ cnt (top y) y → B.P (top y) ≡ a
  pub P-else : (j : ℕ) → (j ≡ a → ⊥) → (j ≡ b → ⊥) → (1 ≤ cnt j y → j ≡ top y → ⊥) → B.P j ≡ A.P j
  pub Ha : B.H a ≡ suc (max (ht x) (ht y))
  pub H-else : (j : ℕ) → (j ≡ a → ⊥) → (j ≡ b → ⊥) → B.H j ≡ A.H j

pub single : (A B : Arr) (n a b : ℕ) (x y z : Tree) (k : Ctx) (hh : ℕ) → At A n b a x (node y b z) k hh → Single A B a b x y
    → At B n b b (node x a y) z k hh
single A B n a b x y z k hh S W =
    let da : δ a a ≡ 1 = δ-same a in
    let db : δ b b ≡ 1 = δ-same b in
    -- a and b are two, and neither stands in a subtree or above
    let oa : cnt_k a k + (cnt a x + (δ a a + (cnt a y + (δ b a + cnt a z)))) ≤ 1 = S.once a in
    let ob : cnt_k b k + (cnt b x + (δ a b + (cnt b y + (δ b b + cnt b z)))) ≤ 1 = S.once b in
    let a≢b : a ≡ b → ⊥ = apart (λ v. δ a v) (omega arith) (omega arith) in
    let b≢a : b ≡ a → ⊥ = apart (λ v. δ b v) (omega arith) (omega arith) in
    let same : (j : ℕ) → (j ≡ a → ⊥) → (j ≡ b → ⊥) → (1 ≤ cnt j y → j ≡ top y → ⊥) → Agree A B j = λ j na nb ny.
    record { l = W.L-else j nb; r = W.R-else j na; p = W.P-else j na nb ny; h = W.H-else j na nb } in
    -- what stands in a part f that is not a, b or y agrees
    let in_part : (f : ℕ → ℕ) → f a ≡ 0 → f b ≡ 0 → ((j : ℕ) → 1 ≤ f j → cnt j y ≡ 0) → (j : ℕ) → 1 ≤ f j → Agree A B j = λ f fa fb fy j m.
    same j (apart f m fa) (apart f m fb) (λ iy e. let none-y : cnt j y ≡ 0 = fy j m in omega arith) in
    let in-k : (j : ℕ) → 1 ≤ cnt_k j k → Agree A B j = in_part (λ v. cnt_k v k) (omega arith) (omega arith) (λ j m. omega (arith, S.once j)) in
    record {
      fits = S.rrep.0.fits;
      left = W.Lb;
      right = W.R-else b b≢a ∙ S.rrep.0.right;
      up = W.Pb ∙ S.up;
      lrep = (
        record { fits = S.fits; left = W.L-else a a≢b ∙ S.left; right = W.Ra; up = W.Pa; high = W.Ha },
        frame A B n x a (in_part (λ v. cnt v x) (omega arith) (omega arith) (λ j m. omega (arith, S.once j))) S.lrep,
        move A B n y b a (λ j. omega (arith, S.once j))
            (λ j m.
            let na : j ≡ a → ⊥ = apart (λ v. cnt v y) m (omega arith) in
            let nb : j ≡ b → ⊥ = apart (λ v. cnt v y) m (omega arith) in
            record { l = W.L-else j nb; r = W.R-else j na; p = λ ne. W.P-else j na nb (λ _. ne); h = W.H-else j na nb })
            W.Py S.rrep.1,
      );
      rrep = frame A B n z b (in_part (λ v. cnt v z) (omega arith) (omega arith) (λ j m. omega (arith, S.once j))) S.rrep.2;
      link = frame_link A B n k b W.root in-k S.link;
      krep = frame_k A B n k hh W.root in-k S.krep;
      once = λ j. omega (arith, S.once j);
    }

-- What rl_rotate changes: c, the left child of a's right child b, comes above both; its subtrees y and w go to a and b.
pub record Double (A B : Arr) (a b c : ℕ) (x y w z : Tree) : Type 0 where
  pub root : B.root ≡ A.root
  pub Lb : B.L b ≡ top w
  pub Lc : B.L c ≡ a
  pub L-else : (j : ℕ) → (j ≡ b → ⊥) → (j ≡ c → ⊥) → B.L j ≡ A.L j
  pub Ra : B.R a ≡ top y
  pub Rc : B.R c ≡ b
  pub R-else : (j : ℕ) → (j ≡ a → ⊥) → (j ≡ c → ⊥) → B.R j ≡ A.R j
  pub Pa : B.P a ≡ c
  pub Pb : B.P b ≡ c
  pub Pc : B.P c ≡ A.P a
  pub Py : 1 ≤ cnt (top y) y → B.P (top y) ≡ a
  pub Pw : 1 ≤ cnt (top w) w → B.P (top w) ≡ b
  pub P-else : (j : ℕ) → (j ≡ a → ⊥) → (j ≡ b → ⊥) → (j ≡ c → ⊥) → (1 ≤ cnt j y → j ≡ top y → ⊥) → (1 ≤ cnt j w → j ≡ top w → ⊥) → B.P j ≡ A.P j
  pub Ha : B.H a ≡ suc (max (ht x) (ht y))
  pub Hb : B.H b ≡ suc (max (ht w) (ht z))
  pub H-else : (j : ℕ) → (j ≡ a → ⊥) → (j ≡ b → ⊥) → (j ≡ c → ⊥) → B.H j ≡ A.H j

pub double : (A B : Arr) (n a b c : ℕ) (x y w z : Tree) (k : Ctx) (hh : ℕ) → At A n c a x (node (node y c w) b z) k hh → Double A B a b c x y w z
    → At B n c c (node x a y) (node w b z) k hh
double A B n a b c x y w z k hh S W =
    let da : δ a a ≡ 1 = δ-same a in
    let db : δ b b ≡ 1 = δ-same b in
    let dc : δ c c ≡ 1 = δ-same c in
    let oa : cnt_k a k + (cnt a x + (δ a a + (cnt a y + (δ c a + cnt a w) + (δ b a + cnt a z)))) ≤ 1 = S.once a in
    let ob : cnt_k b k + (cnt b x + (δ a b + (cnt b y + (δ c b + cnt b w) + (δ b b + cnt b z)))) ≤ 1 = S.once b in
    let oc : cnt_k c k + (cnt c x + (δ a c + (cnt c y + (δ c c + cnt c w) + (δ b c + cnt c z)))) ≤ 1 = S.once c in
    let a≢b : a ≡ b → ⊥ = apart (λ v. δ a v) (omega arith) (omega arith) in
    let a≢c : a ≡ c → ⊥ = apart (λ v. δ a v) (omega arith) (omega arith) in
    let b≢a : b ≡ a → ⊥ = apart (λ v. δ b v) (omega arith) (omega arith) in
    let b≢c : b ≡ c → ⊥ = apart (λ v. δ b v) (omega arith) (omega arith) in
    -- what stands in a part f that has none of a, b, c, and nothing of y and w, agrees
    let in_part : (f : ℕ → ℕ) → f a ≡ 0 → f b ≡ 0 → f c ≡ 0 → ((j : ℕ) → 1 ≤ f j → cnt j y + cnt j w ≡ 0) → (j : ℕ) → 1 ≤ f j → Agree A B j = λ f fa fb fc fy j m.
    let na : j ≡ a → ⊥ = apart f m fa in
    let nb : j ≡ b → ⊥ = apart f m fb in
    let nc : j ≡ c → ⊥ = apart f m fc in
    let none_yw : cnt j y + cnt j w ≡ 0 = fy j m in
    record { l = W.L-else j nb nc; r = W.R-else j na nc; p = W.P-else j na nb nc (λ iy e. omega arith) (λ iw e. omega arith); h = W.H-else j na nb nc } in
    -- the same for a subtree that moves
    let in_moved : (f : ℕ → ℕ) (t : ℕ) → f a ≡ 0 → f b ≡ 0 → f c ≡ 0
    → ((j : ℕ) → 1 ≤ f j → (j ≡ t → ⊥) → (1 ≤ cnt j y → j ≡ top y → ⊥) × (1 ≤ cnt j w → j ≡ top w → ⊥)) → (j : ℕ) → 1 ≤ f j → Moved A B t j =
    λ f t fa fb fc fy j m.
    let na : j ≡ a → ⊥ = apart f m fa in
    let nb : j ≡ b → ⊥ = apart f m fb in
    let nc : j ≡ c → ⊥ = apart f m fc in
    record { l = W.L-else j nb nc; r = W.R-else j na nc; p = λ ne. W.P-else j na nb nc (fy j m ne).0 (fy j m ne).1; h = W.H-else j na nb nc } in
    let in-k : (j : ℕ) → 1 ≤ cnt_k j k → Agree A B j = in_part (λ v. cnt_k v k) (omega arith) (omega arith) (omega arith) (λ j m. omega (arith, S.once j)) in
    record {
      fits = S.rrep.1.0.fits;
      left = W.Lc;
      right = W.Rc;
      up = W.Pc ∙ S.up;
      lrep = (
        record { fits = S.fits; left = W.L-else a a≢b a≢c ∙ S.left; right = W.Ra; up = W.Pa; high = W.Ha },
        frame A B n x a (in_part (λ v. cnt v x) (omega arith) (omega arith) (omega arith) (λ j m. omega (arith, S.once j))) S.lrep,
        move A B n y c a (λ j. omega (arith, S.once j))
            (in_moved (λ v. cnt v y) (top y) (omega arith) (omega arith) (omega arith) (λ j m ne. (λ _. ne, λ iw e. omega (arith, S.once j))))
            W.Py S.rrep.1.1,
      );
      rrep = (
        record { fits = S.rrep.0.fits; left = W.Lb; right = W.R-else b b≢a b≢c ∙ S.rrep.0.right; up = W.Pb; high = W.Hb },
        move A B n w c b (λ j. omega (arith, S.once j))
            (in_moved (λ v. cnt v w) (top w) (omega arith) (omega arith) (omega arith) (λ j m ne. (λ iy e. omega (arith, S.once j), λ _. ne)))
            W.Pw S.rrep.1.2,
        frame A B n z b (in_part (λ v. cnt v z) (omega arith) (omega arith) (omega arith) (λ j m. omega (arith, S.once j))) S.rrep.2,
      );
      link = frame_link A B n k c W.root in-k S.link;
      krep = frame_k A B n k hh W.root in-k S.krep;
      once = λ j. omega (arith, S.once j);
    }
