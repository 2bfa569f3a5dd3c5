use Rattle.std.proofs.Common.{◌≡◌, ◌∙◌, ◌<◌, ◌^◌, List, ℕ, length, arith, refl, sym, subst}
use Rattle.rpc_packet.specs.Outcomes.{AreTexts}
use Rattle.rpc_packet.specs.Packets.{number_at, bytes_at, texts_at}
use Rattle.rpc_packet.specs.declared.text_pair.TextPair.{TextPair}
use Rattle.rpc_packet.proofs.PacketValues.{request_values_fit}
use Rattle.rpc_packet.proofs.Taken.{byte_is, short_is, int_is, nine_left, eight_left, seven_left, six_left, context_stays, body_stays, func_stays, servant_stays}
use Rattle.rpc_packet.proofs.reading.request_of.Goals as goal

pub short_at-version-requires : goal.short_at-version-requires
short_at-version-requires c = rw c.as_slice.ensures (request_values_fit c.args.values c.requires).version

pub kind_at-kind-requires : goal.kind_at-kind-requires
kind_at-kind-requires c = rw c.as_slice-2.ensures (request_values_fit c.args.values c.requires).kind

pub int_at-message-requires : goal.int_at-message-requires
int_at-message-requires c = rw c.as_slice-3.ensures (request_values_fit c.args.values c.requires).message

pub int_at-id-requires : goal.int_at-id-requires
int_at-id-requires c = rw c.as_slice-4.ensures (request_values_fit c.args.values c.requires).id

pub int_at-timeout-requires : goal.int_at-timeout-requires
int_at-timeout-requires c = rw c.as_slice-5.ensures (request_values_fit c.args.values c.requires).timeout

pub take_texts-requires : goal.take_texts-requires
take_texts-requires c = omega (arith, (request_values_fit c.args.values c.requires).count)

pub take_texts-requires-2 : goal.take_texts-requires-2
take_texts-requires-2 c =
    omega (arith, nine_left c.args.values c.take_texts.new.values _ _ _ (request_values_fit c.args.values c.requires).count c.in_ok-status.ensures.rest refl refl refl)

pub take_bytes-body-requires : goal.take_bytes-body-requires
take_bytes-body-requires c =
    omega (arith, eight_left c.args.values c.take_texts.new.values c.take_texts-2.new.values _ _ (request_values_fit c.args.values c.requires).count c.in_ok-status.ensures.rest c.in_ok-context.ensures.rest refl refl)

pub take_bytes-func-requires : goal.take_bytes-func-requires
take_bytes-func-requires c =
    omega (
      arith,
      seven_left c.args.values c.take_texts.new.values c.take_texts-2.new.values c.take_bytes-body.new.values _
          (request_values_fit c.args.values c.requires).count c.in_ok-status.ensures.rest c.in_ok-context.ensures.rest c.take_bytes-body.ensures.rest refl,
    )

pub take_bytes-servant-requires : goal.take_bytes-servant-requires
take_bytes-servant-requires c =
    omega (
      arith,
      six_left c.args.values c.take_texts.new.values c.take_texts-2.new.values c.take_bytes-body.new.values c.take_bytes-func.new.values
          (request_values_fit c.args.values c.requires).count c.in_ok-status.ensures.rest c.in_ok-context.ensures.rest c.take_bytes-body.ensures.rest c.take_bytes-func.ensures.rest,
    )

module _ (c : goal.After-drop-values-inside-2) where
  context_is : c.in_ok-context.context ≡ texts_at c.args.values 8
  context_is =
      c.in_ok-context.ensures.said
      ∙ context_stays c.args.values c.take_texts.new.values c.take_texts-2.new.values c.take_bytes-body.new.values c.take_bytes-func.new.values
      (request_values_fit c.args.values c.requires).count c.in_ok-status.ensures.rest c.in_ok-context.ensures.rest c.take_bytes-body.ensures.rest c.take_bytes-func.ensures.rest

  body_is : c.take_bytes-body.result ≡ bytes_at c.args.values 6
  body_is =
      c.take_bytes-body.ensures.said
      ∙ body_stays c.args.values c.take_texts.new.values c.take_texts-2.new.values c.take_bytes-body.new.values c.take_bytes-func.new.values
      (request_values_fit c.args.values c.requires).count c.in_ok-status.ensures.rest c.in_ok-context.ensures.rest c.take_bytes-body.ensures.rest c.take_bytes-func.ensures.rest

  func_is : c.take_bytes-func.result ≡ bytes_at c.args.values 5
  func_is =
      c.take_bytes-func.ensures.said
      ∙ func_stays c.args.values c.take_texts.new.values c.take_texts-2.new.values c.take_bytes-body.new.values c.take_bytes-func.new.values
      (request_values_fit c.args.values c.requires).count c.in_ok-status.ensures.rest c.in_ok-context.ensures.rest c.take_bytes-body.ensures.rest c.take_bytes-func.ensures.rest

  servant_is : c.take_bytes-servant.result ≡ bytes_at c.args.values 4
  servant_is =
      c.take_bytes-servant.ensures.said
      ∙ servant_stays c.args.values c.take_texts.new.values c.take_texts-2.new.values c.take_bytes-body.new.values c.take_bytes-func.new.values
      (request_values_fit c.args.values c.requires).count c.in_ok-status.ensures.rest c.in_ok-context.ensures.rest c.take_bytes-body.ensures.rest c.take_bytes-func.ensures.rest

pub returns-clause-said : goal.returns-clause-said
returns-clause-said c =
    let values = c.args.values in
    rw (
      short_is c.short_at-version.result (number_at values 0) c.short_at-version.type_inv (rw c.as_slice.ensures at c.short_at-version.ensures),
      byte_is c.kind_at-kind.result (number_at values 1) c.kind_at-kind.type_inv (rw c.as_slice-2.ensures at c.kind_at-kind.ensures),
      int_is c.int_at-message.result (number_at values 2) c.int_at-message.type_inv (rw c.as_slice-3.ensures at c.int_at-message.ensures),
      int_is c.int_at-id.result (number_at values 3) c.int_at-id.type_inv (rw c.as_slice-4.ensures at c.int_at-id.ensures),
      int_is c.int_at-timeout.result (number_at values 7) c.int_at-timeout.type_inv (rw c.as_slice-5.ensures at c.int_at-timeout.ensures),
      servant_is c,
      func_is c,
      body_is c,
      context_is c,
      c.in_ok-status.ensures.said,
    ) refl

pub returns-clause-fits : goal.returns-clause-fits
returns-clause-fits c =
    let fit = request_values_fit c.args.values c.requires in
    record {
      servant = subst (λ (bytes : List ℕ). length bytes < 2 ^ 32) (sym (servant_is c)) fit.servant;
      func = subst (λ (bytes : List ℕ). length bytes < 2 ^ 32) (sym (func_is c)) fit.func;
      body = subst (λ (bytes : List ℕ). length bytes < 2 ^ 31) (sym (body_is c)) fit.body;
      context = subst (λ (texts : List TextPair). AreTexts texts) (sym (context_is c)) fit.context;
      status = subst (λ (texts : List TextPair). AreTexts texts) (sym c.in_ok-status.ensures.said) fit.status;
    }
