-- What a table gives that the strict check accepts: cited. Assumes nothing.
use Prim.Native.Nat.{ℕ, ◌+◌, ◌≤◌, ◌<◌}
use native.Mathlib.Omega.{arith}
use mathlib.Core.Path.{◌≡◌, sym, ap, ap₂, subst, ◌∙◌}
use mathlib.Core.List.{List}
use lib.ListN.{length, get_or, take}
use lib.Seq.{take-append_seam}
use Rattle.units.specs.Told.{Told, gives}
use Rattle.units.specs.declared.Sector.{Sector}
use Rattle.units.specs.declared.Region.{Region}
use Rattle.read_lookup.specs.Lookup.{Finding}
use Rattle.strict_rule.specs.Accepts.{Accepts}
use Rattle.strict_rule.specs.Strict.{name_in}
use Rattle.strict_rule.proofs.Accepted.{accepted}
use Rattle.table_shape.specs.Found.{Answered, found, missing}
use Rattle.table_shape.proofs.Found.{shaped, listed_entry, reached, one_way, entry_found_two, sound_two, some_size}
use Rattle.agree_causes.proofs.Listed.{check_listed}
use Rattle.claims.specs.Accepted.{Readable, AcceptedReadable}
use Rattle.claims.proofs.Found.{found_by_name}

-- what is found is found after at most so many headers
headers_of : (w : List ℕ) (first : Sector) (t : Region) (xs : List ℕ) (m : ℕ) (name : List ℕ) (a : Told Finding) → Answered w first t xs m name a
    → (x : Finding) → a ≡ gives x → x.headers ≤ m
headers_of w first t xs m name a (found o c y i is named k) x e =
    let same : record { entry = y; offset = o; headers = c } ≡ x = cc in
    omega (arith, ap (λ (z : Finding). z.headers) same)
headers_of w first t xs m name a (missing c k none) x e = let z : ◌≡◌ {A = ℕ} 0 1 = cc in absurd (omega arith)

readable : (w : List ℕ) → ((i : ℕ) → get_or w i 0 < 256) → (first : Sector) (t : Region) (xs : List ℕ) → Accepts w first t xs → Readable w first t xs
readable w bytes first t xs rule = record {
  tree = shaped w first t xs rule;
  entry = listed_entry w first t xs rule;
  found = λ o x m e.
      let r = reached w first t xs rule bytes o x m e in
      found_by_name w first t x o (name_in w x) (length xs + 1) r.links r.way r.real
      (λ ks way real. one_way w first t xs rule o x m e ks r.links way real r.way r.real) r.answers
      (λ name good named. headers_of w first t xs (length xs + 1) name _ (sound_two w first t xs rule bytes (some_size w first t xs rule o m) name good) _
      (entry_found_two w first t xs rule bytes o x m e name good named));
  only = sound_two w first t xs rule bytes;
}

pub accepted_readable : AcceptedReadable
accepted_readable w bytes first t list scratch k e =
    let s = check_listed w first t list (length scratch) k e in
    let xs : List ℕ = s.0 in
    subst (Readable w first t) (sym (ap₂ take (sym s.1.1.0) s.1.1.1 ∙ take-append_seam xs _))
    (readable w bytes first t xs (accepted w first t (length list) xs s.1.0).0)
