-- A schema and a table may go to another thread, as all that they own may.
use denote.Param.Send.{IsSend, view_send}
use denote.Param.SendFields.{declared_send, as_row_send, variants_send}
use denote.Hole.{as_row}
use denote.Struct.Field.{u32-field, i32-field}
use Rattle.std.proofs.Crossing.{crosses}
use Rattle.std.specs.contracts.option.Option as options
use Rattle.std.proofs.option.Option.TheSendSync as option
use Rattle.sqlite_items.proofs.boxed.Boxed.TheSendSync as boxed
use Rattle.sqlite_items.proofs.items.Items.TheSendSync as items
use Rattle.tars_model.proofs.decl.Decl.TheSendSync as decl
use Rattle.tars_model.proofs.enum_desc.EnumDesc.TheSendSync as enum_desc
use Rattle.tars_model.proofs.key_desc.KeyDesc.TheSendSync as key_desc
use Rattle.tars_model.proofs.name.Name.TheSendSync as name
use Rattle.tars_model.proofs.ty.Ty.TheLaws.TheKnot.{send-Ty}
use Rattle.tars_model.proofs.value.Value.TheLaws.TheKnot.{send-Value}
use Rattle.tars_model.specs.contracts.bytes8.Bytes8 as bytes8
use Rattle.tars_model.specs.contracts.bytes8.Bytes8.TheInside as bytes8_inside
use Rattle.tars_model.specs.contracts.ty.Ty as ty
use Rattle.tars_model.specs.contracts.value.Value as value
use Rattle.tars_model.specs.contracts.member.Member as member
use Rattle.tars_model.specs.contracts.struct_desc.StructDesc as struct_desc
use Rattle.tars_model.specs.contracts.const_desc.ConstDesc as const_desc
use Rattle.tars_model.specs.contracts.func_desc.Param as param
use Rattle.tars_model.specs.contracts.func_desc.FuncDesc as func_desc
use Rattle.tars_model.specs.contracts.interface_desc.InterfaceDesc as interface_desc
use Rattle.tars_model.specs.contracts.schema.Schema as schema
use Rattle.tars_model.specs.contracts.schema.Schema.TheInside as schema_inside
use Rattle.servant_core.specs.contracts.rules.Rule as rule
use Rattle.servant_core.specs.contracts.table_servant.TableServant as table
use Rattle.servant_core.specs.contracts.table_servant.TableServant.TheInside as table_inside

ty_send : IsSend (as_row ty.the_field)
ty_send = as_row_send ty.the_field (send-Ty (search crosses depth 20) boxed.the_send)

bytes8_send : IsSend bytes8.the_row
bytes8_send = view_send _ _ _ _ _ (declared_send bytes8_inside.the_type (search crosses depth 20, tt))

value_send : IsSend (as_row value.the_field)
value_send = as_row_send value.the_field (send-Value (search crosses depth 20) (search crosses depth 20) bytes8_send items.the_send)

member_send : IsSend member.the_row
member_send = declared_send member.the_type (search crosses depth 20, (search crosses depth 20, (ty_send, (name.the_send, (value_send, tt)))))

struct_send : IsSend struct_desc.the_row
struct_send = declared_send struct_desc.the_type (name.the_send, (name.the_send, (items.the_send _ member_send, tt)))

const_send : IsSend const_desc.the_row
const_send = declared_send const_desc.the_type (name.the_send, (name.the_send, (ty_send, (value_send, tt))))

param_send : IsSend param.the_row
param_send = declared_send param.the_type (name.the_send, (ty_send, (search crosses depth 20, tt)))

func_send : IsSend func_desc.the_row
func_send = declared_send func_desc.the_type (name.the_send, (as_row_send (options.the_field ty.the_row) (option.the_field_send ty.the_row ty_send), (items.the_send _ param_send, tt)))

interface_send : IsSend interface_desc.the_row
interface_send = declared_send interface_desc.the_type (name.the_send, (name.the_send, (items.the_send _ func_send, tt)))

pub schema_send : IsSend schema.the_row
schema_send =
    view_send _ _ _ _ _ (declared_send schema_inside.the_type (
      items.the_send _ struct_send,
      (
        items.the_send _ enum_desc.the_send,
        (
          items.the_send _ const_send,
          (
            items.the_send _ key_desc.the_send,
            (
              items.the_send _ interface_send,
              (items.the_send _ decl.the_send, tt),
            ),
          ),
        ),
      ),
    ))

rule_send : IsSend rule.the_row
rule_send = variants_send rule.enum ((value_send, tt), ((number, tt), ((number, (number, tt)), ((code, tt), (tt, tt)))))
  where
    number : IsSend (as_row u32-field)
    number = search crosses depth 20

    code : IsSend (as_row i32-field)
    code = search crosses depth 20

pub table_send : IsSend table.the_row
table_send = view_send _ _ _ _ _ (declared_send table_inside.the_type (schema_send, (search crosses depth 20, (search (crosses, option.the_send _ rule_send) depth 20, (search crosses depth 20, tt)))))
