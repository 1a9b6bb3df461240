-- One byte more copied to its place. Assumes nothing.
use Rattle.std.proofs.Common.{◌≡◌, ℕ, ◌+◌, ◌<◌, List, length, set, get_or}
use mathlib.Core.Path.{sym, ap, ◌∙◌}
use native.Mathlib.Numerals.{add-one}
use lib.Seq.{paste, paste-suc}

pub copy_turn : (d : List ℕ) (at : ℕ) (s : List ℕ) (j : ℕ) → at + j < length d → j < length s → set (paste d at s j) (at + j) (get_or s j 0) ≡ paste d at s (j + 1)
copy_turn d at s j h k = paste-suc d at s j 0 h k ∙ ap (λ (n : ℕ). paste d at s n) (sym (add-one j))
