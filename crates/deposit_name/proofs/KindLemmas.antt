-- The test of sameness decides whether two kinds are equal.
use Rattle.std.proofs.Common.{◌≡◌, refl}
use Rattle.std.specs.Bool.{Decides}
use Rattle.deposit_name.specs.declared.kinds.Kind.{Kind}
use Rattle.deposit_name.specs.declared.kinds.Kind.TheVariants.{Full, Diff, Incr}
use Rattle.deposit_name.specs.Name.{is_same_kind}

pub same_kind_decides : (one other : Kind) → Decides (is_same_kind one other) (one ≡ other)
same_kind_decides Full Full = (λ _. refl, λ _. refl)
same_kind_decides Diff Diff = (λ _. refl, λ _. refl)
same_kind_decides Incr Incr = (λ _. refl, λ _. refl)
same_kind_decides _ _ = (λ e. cc e, λ e. cc e)
