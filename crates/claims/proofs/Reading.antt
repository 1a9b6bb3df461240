-- What 25, a count and the strict check mean: cited. Assumes nothing.
use native.Mathlib.Omega.{arith}
use mathlib.Core.Path.{◌≡◌, sym, ap, ◌∙◌}
use mathlib.Core.Bool.{false}
use mathlib.Core.List.{[]}
use lib.ListN.{length}
use Rattle.units.specs.Told.{refuses}
use Rattle.name_role.specs.Roles.{bad_sought}
use Rattle.std.specs.Prelude.{Err}
use Rattle.read_lookup.specs.declared.LookupError.TheVariants as error
use Rattle.read_lookup.specs.Lookup as lookup
use Rattle.read_lookup.specs.Lookup.{step_at, lookup_by}
use Rattle.read_lookup.proofs.Rules.{lookup_by_rule}
use Rattle.read_lookup.specs.Chain.{Endless, count_of}
use Rattle.read_lookup.proofs.Laws.{let_through, looped_endless, looped_again, again_endless, endless_looped, count_is_length}
use Rattle.read_lookup.proofs.Told.{told_one}
use Rattle.strict_rule.proofs.Accepted.{accepted}
use Rattle.strict_rule.proofs.Accepts.{accepts}
use Rattle.agree_causes.proofs.Endless.{empty_ends}
use Rattle.agree_causes.proofs.Listed.{check_lists, check_listed}
use Rattle.claims.specs.Reading.{Looped, LoopedExactly, Counted, StrictExactly}

pub looped_exactly : LoopedExactly
looped_exactly w bytes first t name rule absent named r c =
    let by_links_lem = c ∙ (lookup_by_rule w first t name).under rule absent named in
    let said : r ≡ Err error.Looped → lookup_by absent w first t name ≡ refuses 25 [] = λ q. sym by_links_lem ∙ ap lookup.told q in
    let endless : bad_sought name ≡ false → Endless (step_at absent w first t name) 0 → r ≡ Err error.Looped = λ low e. told_one r (Err error.Looped) (by_links_lem ∙ endless_looped absent w first t name low (λ z. empty_ends absent w first t name z e) e) in
    record {
      never_ends = λ q. looped_endless absent w first t name bytes (said q);
      reads_again = λ q. looped_again absent w first t name bytes (said q);
      let_through = λ q. let_through absent w first t name (refuses 25 []) (said q) (λ e. omega arith);
      where_endless = endless;
      where_again = λ low a. endless low (again_endless absent w first t name a);
    }

pub counted : Counted
counted w first t name rule absent named r c n e = count_is_length absent w first t name n (ap count_of (sym (c ∙ (lookup_by_rule w first t name).under rule absent named)) ∙ e)

pub strict_exactly : StrictExactly
strict_exactly w first t list scratch = record {
  accepted = λ k e.
      let s = check_listed w first t list (length scratch) k e in
      (s.0, ((accepted w first t (length list) s.0 s.1.0).0, s.1.1));
  accepts = λ xs a h l. (check_lists w first t list (length scratch) l xs (accepts w first t (length list) xs a h)).0;
}
