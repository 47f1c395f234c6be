-- The kind of a call: the order that starts it, and its name.
use Rattle.std.specs.Prelude.{ℕ, List, codes}
use Rattle.llsc.specs.declared.Order.{Order}
use Rattle.llsc.specs.declared.Order.TheVariants.{StartLl, StartSc, StartVl}
use Rattle.llsc.specs.declared.calls.CallKind.{CallKind}
use Rattle.llsc.specs.declared.calls.CallKind.TheVariants.{Ll, Sc, Vl}

-- "A turn of an idle process starts the next call on its list" (02, CR 5): by the start of its kind
abbrev pub start_of : CallKind → Order
start_of Ll = StartLl
start_of Sc = StartSc
start_of Vl = StartVl

-- as a message names it
abbrev pub kind_text : CallKind → List ℕ
kind_text Ll = codes "LL"
kind_text Sc = codes "SC"
kind_text Vl = codes "VL"
