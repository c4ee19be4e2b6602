-- A call's answer beside what a definition reads. A definition gives the value or the fault; the call may also run out of memory.
use Rattle.std.specs.Prelude.{◌≡◌, Option, Some, None, Result, Ok, Err, ⊤}

infixl 10 ◌>>=◌
abbrev pub ◌>>=◌ : {A B F : Type 0} → Result A F → (A → Result B F) → Result B F
(Ok x) >>= f = f x
(Err e) >>= f = Err e

-- the definition has this fault; None, for want of memory, claims nothing
abbrev pub Fails : {F Y : Type 0} → Option F → Result Y F → Type 0
Fails None read = ⊤
Fails (Some f) read = read ≡ Err f

-- the call gave, seen by view, what the definition reads, or the fault that it has; told e is the fault that the error e names
abbrev pub Gives : {E F X Y : Type 0} → (E → Option F) → (X → Y) → Result X E → Result Y F → Type 0
Gives told view (Ok x) read = read ≡ Ok (view x)
Gives told view (Err e) read = Fails (told e) read
