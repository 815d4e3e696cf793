-- What was told of a run whose writer or memory failed.
use Rattle.std.proofs.Common.{◌≡◌, ◌++◌, List, ℕ, refl, sym, ap, ◌∙◌, append_assoc, Option, Result, Ok}
use Rattle.std.specs.Prelude.{Err, IfOk, IsErr, IsErrAnd, IsOk}
use Rattle.std.specs.Io.KnownBytes.{Appends}
use Rattle.byte_streams.specs.Counts.{CountedView}
use Rattle.byte_streams.specs.Writes.{AppendsFront, WritesAll}
use Rattle.byte_streams.proofs.Fronts.{AppendsFront-first}
use Rattle.board_description.specs.declared.whole.Untold.{Untold}
use Rattle.board_description.specs.declared.whole.Untold.TheVariants.{Broken, NoMemory}
use Rattle.board_description.specs.Kept.{Told}

-- a write of the first part was lost
pub told-broken : {W A B E : Type 0} (contents : W → Option (List ℕ)) (a b : CountedView W) (xs ys : List ℕ) (write : Result A E) (result : Result B Untold)
    → WritesAll contents a b xs write → IsErr write → IsErrAnd result (λ x. x ≡ Broken) → Told contents a b (xs ++ ys) result
told-broken contents a b xs ys (Err w) (Err Broken) one is so = (one.broken.0 refl, AppendsFront-first ys one.front)
told-broken contents a b xs ys (Err w) (Err NoMemory) one is so = absurd cc
told-broken contents a b xs ys (Err w) (Ok x) one is so = absurd so
told-broken contents a b xs ys (Ok w) result one is so = absurd cc

-- memory ran out behind the first part
pub told-front : {W B : Type 0} (contents : W → Option (List ℕ)) (a b : CountedView W) (xs ys : List ℕ) (result : Result B Untold) → b.failures ≡ 0
    → Appends (contents a.inner) (contents b.inner) xs → IsErrAnd result (λ x. x ≡ NoMemory) → Told contents a b (xs ++ ys) result
told-front contents a b xs ys (Err NoMemory) none whole so = (none, record { sent = xs; rest = ys; split = refl; appends = whole })
told-front contents a b xs ys (Err Broken) none whole so = absurd cc
told-front contents a b xs ys (Ok x) none whole so = absurd so

-- ---- all of it in one write

pub told-lost : {W A B E : Type 0} (contents : W → Option (List ℕ)) (a b : CountedView W) (xs : List ℕ) (write : Result A E) (result : Result B Untold)
    → WritesAll contents a b xs write → IsErr write → IsErrAnd result (λ x. x ≡ Broken) → Told contents a b xs result
told-lost contents a b xs (Err w) (Err Broken) one is so = (one.broken.0 refl, one.front)
told-lost contents a b xs (Err w) (Err NoMemory) one is so = absurd cc
told-lost contents a b xs (Err w) (Ok x) one is so = absurd so
told-lost contents a b xs (Ok w) result one is so = absurd cc

pub told-done : {W A B E : Type 0} (contents : W → Option (List ℕ)) (a b : CountedView W) (xs : List ℕ) (write : Result A E) (x : B) → WritesAll contents a b xs write
    → IsOk write → Told contents a b xs (Ok x)
told-done contents a b xs (Ok w) x one is = (one.ok.0 refl, one.whole)
told-done contents a b xs (Err w) x one is = absurd cc

-- a write was lost, so memory did not run out
pub lost-has-memory : {B : Type 0} (result : Result B Untold) → IsErrAnd result (λ x. x ≡ Broken) → IsErrAnd result (λ x. x ≡ NoMemory) → ⊥
lost-has-memory (Err Broken) so lacks = cc
lost-has-memory (Err NoMemory) so lacks = cc
lost-has-memory (Ok x) so lacks = so

-- of a run that was lost no status is told
pub no-status : (result : Result ℕ Untold) (status : ℕ) → IsErrAnd result (λ x. x ≡ Broken) → IfOk result (λ s. s ≡ status)
no-status (Err e) status so = tt
no-status (Ok x) status so = absurd so
