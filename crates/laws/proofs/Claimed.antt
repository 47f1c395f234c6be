-- Facts that are claimed where a test holds: the clauses of an invariant by lines.
use mathlib.Core.Path.{◌≡◌, refl}
use mathlib.Core.Bool.{Bool, true, false}
use Rattle.laws.proofs.Updates.{contra}

-- a fact that is claimed at some lines only
abbrev pub On : Bool → Type 0 → Type 0
On true A = A
On false A = Unit {0}

pub on_map : (b : Bool) {A B : Type 0} → (A → B) → On b A → On b B
on_map true f x = f x
on_map false f x = tt

-- a fact that is not claimed
pub on_no : (b : Bool) (A : Type 0) → b ≡ false → On b A
on_no true A e = absurd (contra refl e)
on_no false A e = tt

pub on_get : (b : Bool) (A : Type 0) → b ≡ true → On b A → A
on_get true A e x = x
on_get false A e x = absurd (contra e refl)

-- a clause's fact, kept with the help of another clause that is claimed at these lines too
pub on_with : (a b : Bool) {A A' B : Type 0} → (a ≡ true → b ≡ true) → (B → A → A') → On b B → On a A → On a A'
on_with true b {B = B} s f x y = f (on_get b B (s refl) x) y
on_with false b s f x y = tt
