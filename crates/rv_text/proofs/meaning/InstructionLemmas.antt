-- Each row with values in range is how some instruction is written.
use Rattle.std.proofs.Common.{◌≡◌, ℕ, ◌*◌, ◌/◌, ◌%◌, ◌^◌, ◌<◌, ◌&&◌, Bool, true, false, List, [], ◌∷◌, refl, ap, ◌∙◌, sym, arith, ℤ, pos, negsuc, ◌≤ℤ◌, unsigned_abs}
use Rattle.std.proofs.lemmas.Bool.{false≢true, and_parts}
use Rattle.std.proofs.lemmas.Bool.Decides.{nat_tests}
use Rattle.std.proofs.lemmas.Int.{ints}
use Rattle.std.specs.Prelude.{codes}
use Rattle.rv_decode.specs.Bits.{twos_complement, signed_value}
use Rattle.rv_decode.specs.Ranges.{extended_32_from, extended_32_to, extended_32_upper}
use Rattle.rv_text.specs.Fields.{within, is_even, is_in}
use Rattle.rv_text.specs.Operands.{slots_of, field_of}
use Rattle.rv_text.specs.Rows.{Named, register_rows, multiply_rows, immediate_rows, memory_rows, branch_rows, other_rows}
use Rattle.rv_text.specs.Spelling.{Spelling, spelled, spelled_registers, spelled_immediate, spelled_shifted, spelled_based, spelled_stored, spelled_branch, spelled_jump, spelled_upper, spelled_alone, raw, spelling_of}
use Rattle.rv_text.specs.declared.form.Form.{Form}
use Rattle.rv_text.specs.declared.form.Form.TheVariants.{Registers, Immediate, Shift, Based, Store, Branch, Jump, Upper, Alone, Word}
use Rattle.rv_text.specs.declared.form.Slot.{Slot}
use Rattle.rv_text.specs.declared.form.Slot.TheVariants.{Last, UpTo}
use Rattle.rv_text.specs.declared.form.Mark.TheVariants.{Comma, Open, Close}
use Rattle.rv_text.specs.declared.field.Field.TheVariants as field
use Rattle.rv_decode.specs.declared.instr.RType.{RType}
use Rattle.rv_decode.specs.declared.instr.IType.{IType}
use Rattle.rv_decode.specs.declared.instr.ShiftType.{ShiftType}
use Rattle.rv_decode.specs.declared.instr.SType.{SType}
use Rattle.rv_decode.specs.declared.instr.BType.{BType}
use Rattle.rv_decode.specs.declared.instr.UType.{UType}
use Rattle.rv_decode.specs.declared.instr.JType.{JType}
use Rattle.rv_decode.specs.declared.instr.FenceType.{FenceType}
use Rattle.rv_decode.specs.declared.instr.Instr.{Instr}
use Rattle.rv_decode.specs.declared.instr.Instr.TheVariants.{Lui, Auipc, Jal, Jalr, Beq, Bne, Blt, Bge, Bltu, Bgeu, Lb, Lh, Lw, Lbu, Lhu, Sb, Sh, Sw, Addi, Slti, Sltiu, Xori, Ori, Andi, Slli, Srli, Srai, Add, Sub, Sll, Slt, Sltu, Xor, Srl, Sra, Or, And, Mul, Mulh, Mulhsu, Mulhu, Div, Divu, Rem, Remu, Fence, Ecall, Ebreak}

-- one value in its range for each slot
abbrev pub in_ranges : List Slot → List ℤ → Bool
in_ranges [] [] = true
in_ranges (s ∷ slots) (z ∷ zs) = is_in (field_of s) z && in_ranges slots zs
in_ranges _ _ = false

-- written as an instruction is, or as a word
pub data Built (s : Spelling) : Type 0 where
  instruction : (i : Instr) → s ≡ spelling_of i → Built s
  word : (w : ℕ) → s ≡ raw w → Built s

abbrev pub Builds : List ℕ → Form → Type 0
Builds name form = (zs : List ℤ) → in_ranges (slots_of form) zs ≡ true → Built (spelled name form zs)

-- ---- lists of values
none : (P : List ℤ → Type 0) → P [] → (zs : List ℤ) → in_ranges [] zs ≡ true → P zs
none P p [] h = p
none P p (z ∷ zs) h = elim (false≢true h) [ ]

one : (s : Slot) (P : List ℤ → Type 0) → ((a : ℤ) → is_in (field_of s) a ≡ true → P (a ∷ [])) → (zs : List ℤ) → in_ranges (s ∷ []) zs ≡ true → P zs
one s P f [] h = elim (false≢true h) [ ]
one s P f (a ∷ []) h = let p = and_parts (is_in (field_of s) a) true h in f a p.0
one s P f (a ∷ b ∷ zs) h = let p = and_parts (is_in (field_of s) a) false h in elim (false≢true p.1) [ ]

more : (s : Slot) (slots : List Slot) (P : List ℤ → Type 0) → ((a : ℤ) → is_in (field_of s) a ≡ true → (zs : List ℤ) → in_ranges slots zs ≡ true → P (a ∷ zs)) → (zs : List ℤ) → in_ranges (s ∷ slots) zs ≡ true → P zs
more s slots P f [] h = elim (false≢true h) [ ]
more s slots P f (a ∷ zs) h = let p = and_parts (is_in (field_of s) a) (in_ranges slots zs) h in f a p.0 zs p.1

-- ---- ranges
from : (low high z : ℤ) → within low high z ≡ true → low ≤ℤ z
from low high z h = grind (arith, nat_tests)

to : (low high z : ℤ) → within low high z ≡ true → z ≤ℤ high
to low high z h = grind (arith, nat_tests)

even : (z : ℤ) → is_even z ≡ true → unsigned_abs z % 2 ≡ 0
even z h = grind (arith, nat_tests)

register : (n : ℕ) → within (pos 0) (pos 31) (pos n) ≡ true → n < 32
register n h = grind (arith, nat_tests, ints)

-- ---- the upper twenty bits
upper-back : (n : ℕ) → n < 2 ^ 32 → twos_complement 32 (signed_value 32 n) ≡ n
upper-back n h = grind (arith, nat_tests)

upper-small : (n : ℕ) → within (pos 0) (pos 1048575) (pos n) ≡ true → n < 2 ^ 20
upper-small n h = grind (arith, nat_tests, ints)

upper-whole : (n : ℕ) → n < 2 ^ 20 → n * 2 ^ 12 < 2 ^ 32
upper-whole n h = omega arith

upper-multiple : (n : ℕ) → n * 2 ^ 12 % 4096 ≡ 0
upper-multiple n = omega arith

upper-value : (n : ℕ) → n < 2 ^ 20 → twos_complement 32 (signed_value 32 (n * 2 ^ 12)) / 2 ^ 12 ≡ n
upper-value n h = rw (upper-back (n * 2 ^ 12) (upper-whole n h)) (omega arith)

u_type : (d n : ℕ) → d < 32 → n < 2 ^ 20 → UType
u_type d n h k = record {
  rd = d;
  imm = signed_value 32 (n * 2 ^ 12);
  rd_is_register = h;
  imm_from = extended_32_from (n * 2 ^ 12) (upper-whole n k);
  imm_to = extended_32_to (n * 2 ^ 12) (upper-whole n k) (upper-multiple n);
  imm_is_upper = extended_32_upper (n * 2 ^ 12) (upper-whole n k) (upper-multiple n);
}

-- ---- the values of each form
registers-by : (name : List ℕ) (make : RType → Instr) → ((t : RType) → spelled_registers name t ≡ spelling_of (make t)) → (a b c : ℤ) → within (pos 0) (pos 31) a ≡ true → within (pos 0) (pos 31) b ≡ true → within (pos 0) (pos 31) c ≡ true → Built (spelled name Registers (a ∷ b ∷ c ∷ []))
registers-by name make is (pos a) (pos b) (pos c) h k l = let t : RType = record { rd = a; rs1 = b; rs2 = c; rd_is_register = register a h; rs1_is_register = register b k; rs2_is_register = register c l } in instruction (make t) (is t)
registers-by name make is (negsuc a) b c h k l = elim (false≢true h) [ ]
registers-by name make is (pos a) (negsuc b) c h k l = elim (false≢true k) [ ]
registers-by name make is (pos a) (pos b) (negsuc c) h k l = elim (false≢true l) [ ]

immediate-by : (name : List ℕ) (make : IType → Instr) → ((t : IType) → spelled_immediate name t ≡ spelling_of (make t)) → (a b c : ℤ) → within (pos 0) (pos 31) a ≡ true → within (pos 0) (pos 31) b ≡ true → within (negsuc 2047) (pos 2047) c ≡ true → Built (spelled name Immediate (a ∷ b ∷ c ∷ []))
immediate-by name make is (pos a) (pos b) c h k l = let t : IType = record { rd = a; rs1 = b; imm = c; rd_is_register = register a h; rs1_is_register = register b k; imm_from = from (negsuc 2047) (pos 2047) c l; imm_to = to (negsuc 2047) (pos 2047) c l } in instruction (make t) (is t)
immediate-by name make is (negsuc a) b c h k l = elim (false≢true h) [ ]
immediate-by name make is (pos a) (negsuc b) c h k l = elim (false≢true k) [ ]

shifted-by : (name : List ℕ) (make : ShiftType → Instr) → ((t : ShiftType) → spelled_shifted name t ≡ spelling_of (make t)) → (a b c : ℤ) → within (pos 0) (pos 31) a ≡ true → within (pos 0) (pos 31) b ≡ true → within (pos 0) (pos 31) c ≡ true → Built (spelled name Shift (a ∷ b ∷ c ∷ []))
shifted-by name make is (pos a) (pos b) c h k l = let t : ShiftType = record { rd = a; rs1 = b; imm = c; rd_is_register = register a h; rs1_is_register = register b k; imm_from = from (pos 0) (pos 31) c l; imm_to = to (pos 0) (pos 31) c l } in instruction (make t) (is t)
shifted-by name make is (negsuc a) b c h k l = elim (false≢true h) [ ]
shifted-by name make is (pos a) (negsuc b) c h k l = elim (false≢true k) [ ]

based-by : (name : List ℕ) (make : IType → Instr) → ((t : IType) → spelled_based name t ≡ spelling_of (make t)) → (a c b : ℤ) → within (pos 0) (pos 31) a ≡ true → within (negsuc 2047) (pos 2047) c ≡ true → within (pos 0) (pos 31) b ≡ true → Built (spelled name Based (a ∷ c ∷ b ∷ []))
based-by name make is (pos a) c (pos b) h l k = let t : IType = record { rd = a; rs1 = b; imm = c; rd_is_register = register a h; rs1_is_register = register b k; imm_from = from (negsuc 2047) (pos 2047) c l; imm_to = to (negsuc 2047) (pos 2047) c l } in instruction (make t) (is t)
based-by name make is (negsuc a) c b h l k = elim (false≢true h) [ ]
based-by name make is (pos a) c (negsuc b) h l k = elim (false≢true k) [ ]

stored-by : (name : List ℕ) (make : SType → Instr) → ((t : SType) → spelled_stored name t ≡ spelling_of (make t)) → (a c b : ℤ) → within (pos 0) (pos 31) a ≡ true → within (negsuc 2047) (pos 2047) c ≡ true → within (pos 0) (pos 31) b ≡ true → Built (spelled name Store (a ∷ c ∷ b ∷ []))
stored-by name make is (pos a) c (pos b) h l k = let t : SType = record { rs1 = b; rs2 = a; imm = c; rs1_is_register = register b k; rs2_is_register = register a h; imm_from = from (negsuc 2047) (pos 2047) c l; imm_to = to (negsuc 2047) (pos 2047) c l } in instruction (make t) (is t)
stored-by name make is (negsuc a) c b h l k = elim (false≢true h) [ ]
stored-by name make is (pos a) c (negsuc b) h l k = elim (false≢true k) [ ]

branch-by : (name : List ℕ) (make : BType → Instr) → ((t : BType) → spelled_branch name t ≡ spelling_of (make t)) → (a b c : ℤ) → within (pos 0) (pos 31) a ≡ true → within (pos 0) (pos 31) b ≡ true → within (negsuc 4095) (pos 4094) c && is_even c ≡ true → Built (spelled name Branch (a ∷ b ∷ c ∷ []))
branch-by name make is (pos a) (pos b) c h k l = let p = and_parts (within (negsuc 4095) (pos 4094) c) (is_even c) l in let t : BType = record { rs1 = a; rs2 = b; imm = c; rs1_is_register = register a h; rs2_is_register = register b k; imm_from = from (negsuc 4095) (pos 4094) c p.0; imm_to = to (negsuc 4095) (pos 4094) c p.0; imm_is_even = even c p.1 } in instruction (make t) (is t)
branch-by name make is (negsuc a) b c h k l = elim (false≢true h) [ ]
branch-by name make is (pos a) (negsuc b) c h k l = elim (false≢true k) [ ]

jump-by : (name : List ℕ) (make : JType → Instr) → ((t : JType) → spelled_jump name t ≡ spelling_of (make t)) → (a c : ℤ) → within (pos 0) (pos 31) a ≡ true → within (negsuc 1048575) (pos 1048574) c && is_even c ≡ true → Built (spelled name Jump (a ∷ c ∷ []))
jump-by name make is (pos a) c h l = let p = and_parts (within (negsuc 1048575) (pos 1048574) c) (is_even c) l in let t : JType = record { rd = a; imm = c; rd_is_register = register a h; imm_from = from (negsuc 1048575) (pos 1048574) c p.0; imm_to = to (negsuc 1048575) (pos 1048574) c p.0; imm_is_even = even c p.1 } in instruction (make t) (is t)
jump-by name make is (negsuc a) c h l = elim (false≢true h) [ ]

upper-by : (name : List ℕ) (make : UType → Instr) → ((t : UType) → spelled_upper name t ≡ spelling_of (make t)) → (a c : ℤ) → within (pos 0) (pos 31) a ≡ true → within (pos 0) (pos 1048575) c ≡ true → Built (spelled name Upper (a ∷ c ∷ []))
unfolding u_type
upper-by name make is (pos a) (pos n) h l = let t = u_type a n (register a h) (upper-small n l) in instruction (make t) (ap (λ m. spelled name Upper (pos a ∷ pos m ∷ [])) (sym (upper-value n (upper-small n l))) ∙ is t)
upper-by name make is (negsuc a) c h l = elim (false≢true h) [ ]
upper-by name make is (pos a) (negsuc c) h l = elim (false≢true l) [ ]

word-by : (a : ℤ) → within (pos 0) (pos 4294967295) a ≡ true → Built (spelled (codes ".word") Word (a ∷ []))
word-by (pos w) h = word w refl
word-by (negsuc w) h = elim (false≢true h) [ ]

-- ---- each form
three : (s t u : Slot) (P : List ℤ → Type 0) → ((a b c : ℤ) → is_in (field_of s) a ≡ true → is_in (field_of t) b ≡ true → is_in (field_of u) c ≡ true → P (a ∷ b ∷ c ∷ [])) → (zs : List ℤ) → in_ranges (s ∷ t ∷ u ∷ []) zs ≡ true → P zs
three s t u P f = more s (t ∷ u ∷ []) P (λ a h. more t (u ∷ []) (λ zs. P (a ∷ zs)) (λ b k. one u (λ zs. P (a ∷ b ∷ zs)) (λ c l. f a b c h k l)))

two : (s t : Slot) (P : List ℤ → Type 0) → ((a b : ℤ) → is_in (field_of s) a ≡ true → is_in (field_of t) b ≡ true → P (a ∷ b ∷ [])) → (zs : List ℤ) → in_ranges (s ∷ t ∷ []) zs ≡ true → P zs
two s t P f = more s (t ∷ []) P (λ a h. one t (λ zs. P (a ∷ zs)) (λ b k. f a b h k))

registers-builds : (name : List ℕ) (make : RType → Instr) → ((t : RType) → spelled_registers name t ≡ spelling_of (make t)) → Builds name Registers
registers-builds name make is = three (UpTo field.Rd Comma) (UpTo field.Rs1 Comma) (Last field.Rs2) (λ zs. Built (spelled name Registers zs)) (registers-by name make is)

immediate-builds : (name : List ℕ) (make : IType → Instr) → ((t : IType) → spelled_immediate name t ≡ spelling_of (make t)) → Builds name Immediate
immediate-builds name make is = three (UpTo field.Rd Comma) (UpTo field.Rs1 Comma) (Last field.Immediate) (λ zs. Built (spelled name Immediate zs)) (immediate-by name make is)

shifted-builds : (name : List ℕ) (make : ShiftType → Instr) → ((t : ShiftType) → spelled_shifted name t ≡ spelling_of (make t)) → Builds name Shift
shifted-builds name make is = three (UpTo field.Rd Comma) (UpTo field.Rs1 Comma) (Last field.Shift) (λ zs. Built (spelled name Shift zs)) (shifted-by name make is)

based-builds : (name : List ℕ) (make : IType → Instr) → ((t : IType) → spelled_based name t ≡ spelling_of (make t)) → Builds name Based
based-builds name make is = three (UpTo field.Rd Comma) (UpTo field.Immediate Open) (UpTo field.Rs1 Close) (λ zs. Built (spelled name Based zs)) (based-by name make is)

stored-builds : (name : List ℕ) (make : SType → Instr) → ((t : SType) → spelled_stored name t ≡ spelling_of (make t)) → Builds name Store
stored-builds name make is = three (UpTo field.Rs2 Comma) (UpTo field.StoreOffset Open) (UpTo field.Rs1 Close) (λ zs. Built (spelled name Store zs)) (stored-by name make is)

branch-builds : (name : List ℕ) (make : BType → Instr) → ((t : BType) → spelled_branch name t ≡ spelling_of (make t)) → Builds name Branch
branch-builds name make is = three (UpTo field.Rs1 Comma) (UpTo field.Rs2 Comma) (Last field.BranchTarget) (λ zs. Built (spelled name Branch zs)) (branch-by name make is)

jump-builds : (name : List ℕ) (make : JType → Instr) → ((t : JType) → spelled_jump name t ≡ spelling_of (make t)) → Builds name Jump
jump-builds name make is = two (UpTo field.Rd Comma) (Last field.JumpTarget) (λ zs. Built (spelled name Jump zs)) (jump-by name make is)

upper-builds : (name : List ℕ) (make : UType → Instr) → ((t : UType) → spelled_upper name t ≡ spelling_of (make t)) → Builds name Upper
upper-builds name make is = two (UpTo field.Rd Comma) (Last field.Upper) (λ zs. Built (spelled name Upper zs)) (upper-by name make is)

alone-builds : (name : List ℕ) (i : Instr) → spelled_alone name ≡ spelling_of i → Builds name Alone
alone-builds name i is = none (λ zs. Built (spelled name Alone zs)) (instruction i is)

word-builds : Builds (codes ".word") Word
word-builds = one (Last field.Word) (λ zs. Built (spelled (codes ".word") Word zs)) word-by

-- the fence that has a mnemonic
fence_all : FenceType
fence_all = record { fields = 0x0ff00000; fields_are_word = omega arith; opcode_is_clear = refl; funct3_is_clear = refl }

-- ---- each row
pub record Both (A B : Type 0) : Type 0 where
  pub this : A
  pub rest : B

-- a fact of each row
abbrev pub AllBuild : List Named → Type 0
AllBuild [] = Unit {0}
AllBuild (n ∷ ns) = Both (Builds n.name n.row.form) (AllBuild ns)

and : {A B : Type 0} → A → B → Both A B
and a b = record { this = a; rest = b }

pub register-rows : AllBuild register_rows
unfolding spelling_of
register-rows = and (registers-builds (codes "add") Add (λ t. refl)) (and (registers-builds (codes "sub") Sub (λ t. refl)) (and (registers-builds (codes "sll") Sll (λ t. refl)) (and (registers-builds (codes "slt") Slt (λ t. refl)) (and (registers-builds (codes "sltu") Sltu (λ t. refl)) (and (registers-builds (codes "xor") Xor (λ t. refl)) (and (registers-builds (codes "srl") Srl (λ t. refl)) (and (registers-builds (codes "sra") Sra (λ t. refl)) (and (registers-builds (codes "or") Or (λ t. refl)) (and (registers-builds (codes "and") And (λ t. refl)) (tt))))))))))

pub multiply-rows : AllBuild multiply_rows
unfolding spelling_of
multiply-rows = and (registers-builds (codes "mul") Mul (λ t. refl)) (and (registers-builds (codes "mulh") Mulh (λ t. refl)) (and (registers-builds (codes "mulhsu") Mulhsu (λ t. refl)) (and (registers-builds (codes "mulhu") Mulhu (λ t. refl)) (and (registers-builds (codes "div") Div (λ t. refl)) (and (registers-builds (codes "divu") Divu (λ t. refl)) (and (registers-builds (codes "rem") Rem (λ t. refl)) (and (registers-builds (codes "remu") Remu (λ t. refl)) (tt))))))))

pub immediate-rows : AllBuild immediate_rows
unfolding spelling_of
immediate-rows = and (immediate-builds (codes "addi") Addi (λ t. refl)) (and (immediate-builds (codes "slti") Slti (λ t. refl)) (and (immediate-builds (codes "sltiu") Sltiu (λ t. refl)) (and (immediate-builds (codes "xori") Xori (λ t. refl)) (and (immediate-builds (codes "ori") Ori (λ t. refl)) (and (immediate-builds (codes "andi") Andi (λ t. refl)) (and (shifted-builds (codes "slli") Slli (λ t. refl)) (and (shifted-builds (codes "srli") Srli (λ t. refl)) (and (shifted-builds (codes "srai") Srai (λ t. refl)) (tt)))))))))

pub memory-rows : AllBuild memory_rows
unfolding spelling_of
memory-rows = and (based-builds (codes "lb") Lb (λ t. refl)) (and (based-builds (codes "lh") Lh (λ t. refl)) (and (based-builds (codes "lw") Lw (λ t. refl)) (and (based-builds (codes "lbu") Lbu (λ t. refl)) (and (based-builds (codes "lhu") Lhu (λ t. refl)) (and (based-builds (codes "jalr") Jalr (λ t. refl)) (and (stored-builds (codes "sb") Sb (λ t. refl)) (and (stored-builds (codes "sh") Sh (λ t. refl)) (and (stored-builds (codes "sw") Sw (λ t. refl)) (tt)))))))))

pub branch-rows : AllBuild branch_rows
unfolding spelling_of
branch-rows = and (jump-builds (codes "jal") Jal (λ t. refl)) (and (branch-builds (codes "beq") Beq (λ t. refl)) (and (branch-builds (codes "bne") Bne (λ t. refl)) (and (branch-builds (codes "blt") Blt (λ t. refl)) (and (branch-builds (codes "bge") Bge (λ t. refl)) (and (branch-builds (codes "bltu") Bltu (λ t. refl)) (and (branch-builds (codes "bgeu") Bgeu (λ t. refl)) (tt)))))))

pub other-rows : AllBuild other_rows
unfolding spelling_of fence_all
other-rows = and (upper-builds (codes "lui") Lui (λ t. refl)) (and (upper-builds (codes "auipc") Auipc (λ t. refl)) (and (alone-builds (codes "fence") (Fence fence_all) refl) (and (alone-builds (codes "ecall") Ecall refl) (and (alone-builds (codes "ebreak") Ebreak refl) (and word-builds tt)))))
