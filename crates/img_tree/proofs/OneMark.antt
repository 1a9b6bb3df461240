-- The ways out of marking one directory, and one entry's. Assumes nothing.
use Rattle.std.proofs.Common.{ℕ, ◌≤◌, ◌<◌, ◌≡◌, refl, sym, ap, Bool, true, false, List, eqb, length, get_or, set}
use borrow.Author.Tests.{lt-ltb, le-ltb, eq-eqb, ne_eqb}
use Rattle.units.specs.Told.{pick}
use Rattle.img_tree.specs.inner.Marks.{is_free, marked_at, is_entry_free, entry_marked}

module _ (named : List ℕ) (d x : ℕ) where
  -- it cannot be named, and the marks stay
  refused : is_free named d x ≡ false → (false ≡ is_free named d x) × (named ≡ marked_at named d x)
  unfolding marked_at
  refused e = (sym e, sym (ap (λ (b : Bool). pick b (set named x 1) named) e))

  pub not_later : x ≤ d → (false ≡ is_free named d x) × (named ≡ marked_at named d x)
  unfolding is_free
  not_later h = refused (rw (le-ltb d x h) refl)

  pub no_such : d < x → length named ≤ x → (false ≡ is_free named d x) × (named ≡ marked_at named d x)
  unfolding is_free
  no_such g h = refused (rw (lt-ltb d x g, le-ltb x (length named) h) refl)

  pub taken_before_lem : d < x → x < length named → (get_or named x 0 ≡ 0 → ⊥) → (false ≡ is_free named d x) × (named ≡ marked_at named d x)
  unfolding is_free
  taken_before_lem g h n = refused (rw (lt-ltb d x g, lt-ltb x (length named) h, ne_eqb (get_or named x 0) 0 n) refl)

  -- it can
  granted : is_free named d x ≡ true → (true ≡ is_free named d x) × (set named x 1 ≡ marked_at named d x)
  unfolding marked_at
  granted e = (sym e, sym (ap (λ (b : Bool). pick b (set named x 1) named) e))

  pub first_named : d < x → x < length named → get_or named x 0 ≡ 0 → (true ≡ is_free named d x) × (set named x 1 ≡ marked_at named d x)
  unfolding is_free
  first_named g h e = granted (rw (lt-ltb d x g, lt-ltb x (length named) h, eq-eqb (get_or named x 0) 0 e) refl)

  -- an entry by its kind
  module _ (kind : ℕ) where
    pub of_directory_lem : (r : Bool) (after : List ℕ) → eqb kind 1 ≡ true → r ≡ is_free named d x → after ≡ marked_at named d x →
        (r ≡ is_entry_free named d kind x) × (after ≡ entry_marked named d kind x)
    unfolding is_entry_free entry_marked
    of_directory_lem r after k e f = (rw k e, rw k f)

    pub of_file : eqb kind 1 ≡ false → (true ≡ is_entry_free named d kind x) × (named ≡ entry_marked named d kind x)
    unfolding is_entry_free entry_marked
    of_file k = (rw k refl, rw k refl)
