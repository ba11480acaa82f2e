-- The payload tree, as definitions see it (MLIR language reference: operations, regions, blocks).
use Rattle.std.specs.Prelude.{List}
use Rattle.std.specs.Coded.{Coded, code_by, coded×, coded_list}
use Rattle.std.proofs.Common.{◌≡◌, refl}
use base.Stored.{Gv, gnil, gcons}
use Rattle.xf_type.specs.contracts.payload_type.PayloadType as payload_type
use Rattle.xf_type.specs.declared.payload_type.PayloadType.{PayloadType}
use Rattle.xf_ir.specs.contracts.name.OpName as name_type
use Rattle.xf_ir.specs.contracts.name.ValueName as value_type
use Rattle.xf_ir.specs.contracts.kind.Kind as kind_type
use Rattle.xf_ir.specs.contracts.kind.Attr as attr_type
use Rattle.xf_ir.specs.declared.name.OpName.{OpName}
use Rattle.xf_ir.specs.declared.name.ValueName.{ValueName}
use Rattle.xf_ir.specs.declared.kind.Kind.{Kind}
use Rattle.xf_ir.specs.declared.kind.Attr.{Attr}

mutual
  -- the operations of a block, in order
  pub data Ops : Type 0 where
    no_ops : Ops
    op : (name : OpName) (kind : Kind) (attrs : List Attr) (operands : List ValueName) (results : List PayloadType)
        (regions : Regions) (rest : Ops) → Ops

  -- the regions of an operation, each of one block, in order
  pub data Regions : Type 0 where
    no_regions : Regions
    region : (args : List PayloadType) (ops : Ops) (rest : Regions) → Regions

-- one operation, with all that it holds
pub record Tree : Type 0 where
  pub name : OpName
  pub kind : Kind
  pub attrs : List Attr
  pub operands : List ValueName
  pub results : List PayloadType
  pub regions : Regions

-- the block of a region
pub record Body : Type 0 where
  pub args : List PayloadType
  pub ops : Ops

-- an operation before others
abbrev pub cons : Tree → Ops → Ops
cons t rest = op t.name t.kind t.attrs t.operands t.results t.regions rest

-- what an operation holds beside other operations
abbrev pub OpFields : Type 0
OpFields = OpName × (Kind × (List Attr × (List ValueName × List PayloadType)))

abbrev pub fields_code : Coded OpFields
fields_code =
    coded× name_type.the_row.coded
    (coded× kind_type.the_row.coded
    (coded× (coded_list attr_type.the_row.coded)
    (coded× (coded_list value_type.the_row.coded) (coded_list payload_type.the_row.coded))))

abbrev pub types_code : Coded (List PayloadType)
types_code = coded_list payload_type.the_row.coded

abbrev mutual
  pub ops_code : Ops → Gv
  ops_code no_ops = gnil
  ops_code (op n k ds os ts rs rest) =
      gcons (fields_code.code (n, (k, (ds, (os, ts))))) (gcons (regions_code rs) (ops_code rest))

  pub regions_code : Regions → Gv
  regions_code no_regions = gnil
  regions_code (region args ops rest) = gcons (types_code.code args) (gcons (ops_code ops) (regions_code rest))

same_op : (h h' : OpFields) (rs rs' : Regions) (rest rest' : Ops) → h ≡ h' → rs ≡ rs' → rest ≡ rest'
    → op h.0 h.1.0 h.1.1.0 h.1.1.1.0 h.1.1.1.1 rs rest ≡ op h'.0 h'.1.0 h'.1.1.0 h'.1.1.1.0 h'.1.1.1.1 rs' rest'
same_op h h' rs rs' rest rest' p q r = cc

mutual
  pub ops_inj : (x y : Ops) → ops_code x ≡ ops_code y → x ≡ y
  ops_inj no_ops no_ops p = refl
  ops_inj no_ops (op n k ds os ts rs rest) p = cc
  ops_inj (op n k ds os ts rs rest) no_ops p = cc
  ops_inj (op n k ds os ts rs rest) (op n' k' ds' os' ts' rs' rest') p =
      let e : fields_code.code (n, (k, (ds, (os, ts)))) ≡ fields_code.code (n', (k', (ds', (os', ts')))) = cc in
      same_op _ _ rs rs' rest rest' (fields_code.inj _ _ e) (regions_inj rs rs' (cc)) (ops_inj rest rest' (cc))

  pub regions_inj : (x y : Regions) → regions_code x ≡ regions_code y → x ≡ y
  regions_inj no_regions no_regions p = refl
  regions_inj no_regions (region args ops rest) p = cc
  regions_inj (region args ops rest) no_regions p = cc
  regions_inj (region args ops rest) (region args' ops' rest') p =
      let e : types_code.code args ≡ types_code.code args' = cc in
      let a = types_code.inj args args' e in
      let b = ops_inj ops ops' (cc) in
      let c = regions_inj rest rest' (cc) in
      cc

abbrev pub tree_code : Coded Tree
tree_code =
    code_by (OpFields × Regions) (coded× fields_code (record { code = regions_code; inj = regions_inj }))
    (λ t. ((t.name, (t.kind, (t.attrs, (t.operands, t.results)))), t.regions))
    (λ p. record {
      name = p.0.0;
      kind = p.0.1.0;
      attrs = p.0.1.1.0;
      operands = p.0.1.1.1.0;
      results = p.0.1.1.1.1;
      regions = p.1;
    })
    (λ _. refl)

abbrev pub body_code : Coded Body
body_code =
    code_by (List PayloadType × Ops) (coded× types_code (record { code = ops_code; inj = ops_inj }))
    (λ b. (b.args, b.ops)) (λ p. record { args = p.0; ops = p.1 }) (λ _. refl)
