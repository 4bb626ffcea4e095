-- The text of the generated program: a type, a method and a function for each number, and a call of each function.
use Rattle.std.specs.Prelude.{ℕ, zero, suc, List, [], ◌++◌, codes, decimal}

abbrev pub type_text : ℕ → List ℕ
type_text k =
    codes "\ntype T"
    ++ (decimal k
    ++ (codes " struct{ n int }\n\nfunc (t T"
    ++ (decimal k ++ codes ") M(x int) int { return (x*7 + t.n) % 1000 }\n")))

abbrev pub function_text : ℕ → List ℕ
function_text k =
    codes "\nfunc f"
    ++ (decimal k
    ++ (codes "(x int) int {\n\tvar i I = T"
    ++ (decimal k ++ (codes "{" ++ (decimal k ++ codes "}\n\treturn i.M(x)\n}\n")))))

abbrev pub declared_text : ℕ → List ℕ
declared_text k = type_text k ++ function_text k

abbrev pub call_text : ℕ → List ℕ
call_text k = codes "\tx = f" ++ (decimal k ++ codes "(x)\n")

-- the texts of the numbers below n, in order
abbrev pub each_below : (ℕ → List ℕ) → ℕ → List ℕ
each_below text zero = []
each_below text (suc n) = each_below text n ++ text n

abbrev pub program_text : ℕ → List ℕ
program_text n =
    codes "package main\n\ntype I interface{ M(x int) int }\n"
    ++ (each_below declared_text n
    ++ (codes "\nfunc main() {\n\tx := 1\n" ++ (each_below call_text n ++ codes "\tprintln(x)\n}\n")))
