-- What each return of the loader's functions answers, over plain values: by the tests and the answers on the way to it. Assumes nothing.
use Prim.Native.Nat.{ℕ, ◌-◌, ◌*◌, ◌≤◌, ◌<◌}
use native.Mathlib.Omega.{arith}
use mathlib.Core.Path.{◌≡◌, refl, sym, ap, ◌∙◌}
use mathlib.Core.Bool.{Bool, true, false}
use mathlib.Core.List.{List, []}
use lib.ListN.{length, take, drop, length-drop, drop_of_length-le}
use lib.Seq.{take_all}
use borrow.Author.Tests.{lt-leb, le-leb}
use Rattle.std.specs.Prelude.{Result, Ok, Err, Some, None, IsErr, IsErrAnd, Option as Maybe}
use Rattle.units.specs.Told.{Told, gives, refuses}
use Rattle.units.specs.declared.Sector.{Sector}
use Rattle.layout_node.specs.declared.Header.{Header}
use Rattle.layout_node.specs.Header.{is_directory}
use Rattle.layout_volume.specs.declared.NoVolume.{NoVolume}
use Rattle.layout_volume.specs.declared.Descriptor.{Descriptor}
use Rattle.layout_volume.specs.Descriptor.{read_of, read_told, date_told, date_of}
use Rattle.layout_volume.proofs.Laws.{short_is_20}
use Rattle.read_entry.specs.declared.Placed.{Placed}
use Rattle.read_entry.specs.declared.ReadError.TheVariants as read_error
use Rattle.read_path.specs.declared.PathError.{PathError}
use Rattle.read_path.specs.declared.PathError.TheVariants as path_error
use Rattle.read_path.specs.Path.{path_of}
use Rattle.read_path.specs.Path as following
use Rattle.limits_rule.specs.declared.Limits.{Limits as Found}
use Rattle.limits_rule.specs.declared.LimitsError.{LimitsError}
use Rattle.limits_rule.specs.declared.LimitsError.TheVariants as error
use Rattle.limits_rule.specs.Limits.{Limits, volume_in, allowed_at, file_of, and_then, refused_path, load_of, told}
use Rattle.limits_rule.proofs.Steps as steps

-- ---- the descriptor: the window starts past it, or ends before it, or has it at that place
module _ (w : List ℕ) (first : Sector) where
  pub starts_past : (n : ℕ) → n ≡ first.0 → 32 < n → refuses 20 [] ≡ volume_in w first
  unfolding volume_in
  starts_past n e h = rw (lt-leb first.0 32 (omega (arith, e)))

  module _ (n : ℕ) (e : n ≡ first.0) (h : n ≤ 32) (start : ℕ) (at : start ≡ 2048 * (32 - n)) where
    place : start ≡ 2048 * (32 - first.0)
    place = at ∙ ap (λ (k : ℕ). 2048 * (32 - k)) e

    pub ends_before : length w < start → refuses 20 [] ≡ volume_in w first
    unfolding volume_in
    ends_before k =
        let gone : drop start w ≡ [] = drop_of_length-le w {i = start} (omega arith) in
        rw (le-leb first.0 32 (omega (arith, e)), ← place, gone) (sym (short_is_20 [] (omega arith)))

    pub stands_there : (r : Result Descriptor NoVolume) → read_told r ≡ read_of (take (length w - start) (drop start w)) → read_told r ≡ volume_in w first
    unfolding volume_in
    stands_there r k =
        let whole : take (length w - start) (drop start w) ≡ drop start w = take_all (length w - start) (drop start w) (simp length-drop (omega arith)) in
        rw (le-leb first.0 32 (omega (arith, e)), ← place, ← whole) k

-- ---- the date
-- what a date does not allow, and the code's refusal for it
abbrev pub Refused : Told ℕ → LimitsError → Type 0
Refused t e = (k : ℕ) × ((t ≡ refuses k []) × (told (Err e) ≡ refuses k []))

module _ (date : Maybe ℕ) (stamp time age : ℕ) (read : date_told date ≡ date_of stamp) where
  pub missing : date ≡ None → allowed_at time age (date_of stamp) ≡ refuses 40 []
  missing e = ap (allowed_at time age) (sym read ∙ ap date_told e) ∙ steps.undated time age

  module _ (s : ℕ) (e : date ≡ Some s) where
    pub back : time < s → allowed_at time age (date_of stamp) ≡ refuses 41 []
    back h = ap (allowed_at time age) (sym read ∙ ap date_told e) ∙ steps.before time age s h

    pub old : s ≤ time → age < time - s → allowed_at time age (date_of stamp) ≡ refuses 42 []
    old h k = ap (allowed_at time age) (sym read ∙ ap date_told e) ∙ steps.older time age s h k

    pub good : s ≤ time → time - s ≤ age → allowed_at time age (date_of stamp) ≡ gives s
    good h k = ap (allowed_at time age) (sym read ∙ ap date_told e) ∙ steps.allowed time age s h k

-- ---- the file
module _ (stamp : ℕ) (h : Header) (b : Bool) (kind : b ≡ is_directory h) where
  pub directory : b ≡ true → refuses 43 [] ≡ file_of stamp h
  directory k = sym (steps.directory_told stamp h (sym kind ∙ k))

  pub file : b ≡ false → gives (record { number = 0; sector = h.sector; size = h.size; stamp = stamp }) ≡ file_of stamp h
  file k = sym (steps.file_told stamp h (sym kind ∙ k))

-- ---- all of it
-- a refusal that a step makes, as the code hands it on
pub handed_on : (r : Result Found LimitsError) (e : LimitsError) → IsErr r × IsErrAnd r (λ (b : LimitsError). b ≡ e) → (x : Told Limits) → told (Err e) ≡ x → told r ≡ x
handed_on (Ok l) e h x k = absurd (not_ok h.0)
  where
    not_ok : false ≡ true → ⊥
    not_ok z = let y : ◌≡◌ {A = ℕ} 0 1 = cc in omega arith
handed_on (Err a) e h x k = rw h.1 k

-- what a path refuses stays
path_refused : (e : PathError) (next : Placed → Told Limits) → refused_path e ≡ and_then (following.told (Err e)) next
path_refused path_error.BadRule next = refl
path_refused path_error.BadByte next = refl
path_refused path_error.DirectoryEmpty next = refl
path_refused path_error.DoesNotExist next = refl
path_refused (path_error.Read (read_error.OutOfBounds o)) next = refl
path_refused (path_error.Read (read_error.Truncated o)) next = refl
path_refused path_error.Looped next = refl
path_refused path_error.IsNotDirectory next = refl
path_refused path_error.NoDirent next = refl

module _ (w : List ℕ) (first : Sector) (path : List ℕ) (time age : ℕ) (v : Result Descriptor NoVolume) (read : read_told v ≡ volume_in w first) where
  pub no_volume : (e : NoVolume) → v ≡ Err e → refuses 20 [] ≡ load_of w first path time age
  no_volume e h = sym (steps.without_volume_told w first path time age (sym read ∙ ap read_told h))

  module _ (d : Descriptor) (e : v ≡ Ok d) where
    by_date : (t : Told ℕ) → allowed_at time age (date_of d.stamp) ≡ t → load_of w first path time age ≡ and_then t (steps.from_root w first path d)
    by_date t h =
        steps.by_volume_told w first path time age d (sym read ∙ ap read_told e) ∙ ap (λ (t : Told ℕ). and_then t (steps.from_root w first path d)) h

    pub not_allowed : (e : LimitsError) → Refused (allowed_at time age (date_of d.stamp)) e → told (Err e) ≡ load_of w first path time age
    not_allowed e h = h.1.1 ∙ sym (by_date _ h.1.0)

    module _ (stamp : ℕ) (date : allowed_at time age (date_of d.stamp) ≡ gives stamp) (f : Result Placed PathError) (found : following.told f ≡ path_of 2 w first d.root path) where
      by_path : (g : Result Placed PathError) → f ≡ g → load_of w first path time age ≡ and_then (following.told g) (λ x. file_of stamp x.header)
      by_path g h = by_date _ date ∙ ap (λ (t : Told Placed). and_then t (λ x. file_of stamp x.header)) (sym found ∙ ap following.told h)

      pub no_entry : (e : PathError) → f ≡ Err e → refused_path e ≡ load_of w first path time age
      no_entry e h = path_refused e (λ x. file_of stamp x.header) ∙ sym (by_path (Err e) h)

      pub loaded : (x : Placed) → f ≡ Ok x → (r : Told Limits) → r ≡ file_of stamp x.header → r ≡ load_of w first path time age
      loaded x h r k = k ∙ sym (by_path (Ok x) h)
