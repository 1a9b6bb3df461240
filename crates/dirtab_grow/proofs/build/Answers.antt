-- `build` meets its contract.
use Rattle.std.proofs.Common.{rules, ◌≡◌, ◌∙◌, ℕ, refl, sym, ap, true, true≢false, Result, Ok, Err, is_ok, IsErrAnd, MatchResult}
use Rattle.std.proofs.lemmas.Result.{err_from_is_err_and}
use Rattle.dirtab_entry.specs.declared.Cause.{Cause}
use Rattle.avl_model.specs.Lent.{lists_of}
use Rattle.dirtab_grow.specs.declared.RefusedEntry.{RefusedEntry}
use Rattle.dirtab_grow.specs.Listing.{listing_of}
use Rattle.dirtab_grow.proofs.Turn.{growing_after, one_more_up, stops, all_in}
use Rattle.dirtab_grow.proofs.build.Goals as goal

was_taken : (r : Result (Unit {0}) Cause) → is_ok r ≡ true → r ≡ Ok tt
was_taken (Ok u) e = refl
was_taken (Err x) e = absurd (true≢false (sym e))

pub add_entry-requires-clause-growing : goal.add_entry-requires-clause-growing
add_entry-requires-clause-growing c = let l = c.loop-i in
    growing_after (listing_of c.args.count c.args.entries) (lists_of l.links) l.key l.i-counter refl l.invariant.built.0
    l.invariant.built.1 c.goes_up-after.ensures

pub loop-i-preserved : goal.loop-i-preserved
loop-i-preserved c = let l = c.loop-i in let k = c.add_entry in record {
  same = l.invariant.same;
  lengths = record {
    l = k.auto.left ∙ l.invariant.lengths.l;
    r = k.auto.right ∙ l.invariant.lengths.r;
    p = k.auto.parent ∙ l.invariant.lengths.p;
    h = k.auto.height ∙ l.invariant.lengths.h;
  };
  key_length = k.auto.key ∙ l.invariant.key_length;
  built = one_more_up (listing_of c.args.count c.args.entries) (lists_of l.links) l.key l.i-counter refl
      l.invariant.built.0 c.loop-i-test.true k.ensures l.invariant.built.1 c.goes_up-after.ensures
      (was_taken k.result (sym c.map_err.ensures.variant ∙ ap is_ok c.in_ok-map_err.was));
}

-- what `map_err` and `?` make of a refusal
was_refused : (r : Result (Unit {0}) Cause) {m v : Result (Unit {0}) RefusedEntry} {i : ℕ} {x : RefusedEntry}
    → MatchResult r (λ u. m ≡ Ok u) (λ c. IsErrAnd m (λ e. e ≡ record { cause = c; entry = i })) → m ≡ Err x → IsErrAnd v (λ e. e ≡ x)
    → (c : Cause) × (r ≡ Err c) × (v ≡ Err (record { cause = c; entry = i }))
was_refused (Ok u) {m} {v} h e f = absurd (true≢false (ap is_ok (sym h ∙ e)))
was_refused (Err c) {m} {v} {i} {x} h e f =
    let k : x ≡ record { cause = c; entry = i } = rw e at h in
    let w = err_from_is_err_and v f in (c, refl, w.1 ∙ ap Err (w.2 ∙ k))

pub returns-in_err-map_err-clause-built : goal.returns-in_err-map_err-clause-built
returns-in_err-map_err-clause-built c = let l = c.loop-i in let k = c.add_entry in
    let g : MatchResult k.result (λ u. c.map_err.result ≡ Ok u) (λ x. IsErrAnd c.map_err.result (λ e. e ≡ record { cause = x; entry = l.i-counter })) = search rules in
    let h = was_refused k.result {i = l.i-counter} g c.in_err-map_err.was c.from_residual.ensures.1 in
    rw h.2 (stops (listing_of c.args.count c.args.entries) (lists_of l.links) l.key l.i-counter refl l.invariant.built.0
    c.loop-i-test.true k.ensures h.1)

pub returns-clause-built : goal.returns-clause-built
returns-clause-built c = let l = c.loop-i in
    all_in (listing_of c.args.count c.args.entries) (lists_of l.links) l.key l.i-counter l.invariant.built.0
    c.loop-i-test.false
