-- What a table gives that is accepted, at what `check_table` answers and leaves. Assumes nothing.
use Prim.Native.Nat.{ℕ, ◌<◌}
use mathlib.Core.Path.{◌≡◌, sym, subst, ◌∙◌}
use mathlib.Core.List.{List}
use lib.ListN.{length, get_or, take}
use Rattle.units.specs.Told.{gives}
use Rattle.units.specs.declared.Sector.{Sector}
use Rattle.units.specs.declared.Region.{Region}
use Rattle.std.specs.Prelude.{Result}
use Rattle.strict_rule.specs.declared.CheckError.{CheckError}
use Rattle.strict_rule.specs.Strict.{told, strict_answer, list_after}
use Rattle.claims.specs.Accepted.{Readable}
use Rattle.claims.proofs.Accepted.{accepted_readable}
use Rattle.claims_bytes.proofs.check_table.Goals as goal

checked : (w : List ℕ) → ((i : ℕ) → get_or w i 0 < 256) → (first : Sector) (t : Region) (list scratch : List ℕ) (r : Result ℕ CheckError) (l : List ℕ)
    → told r ≡ strict_answer w first t (length list) (length scratch) → l ≡ list_after w first t list (length scratch)
    → (k : ℕ) → told r ≡ gives k → Readable w first t (take k l)
checked w bytes first t list scratch r l answer left k e =
    subst (λ (ys : List ℕ). Readable w first t (take k ys)) (sym left) (accepted_readable w bytes first t list scratch k (sym answer ∙ e))

pub returns : goal.returns
returns c = search checked
